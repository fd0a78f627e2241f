-- The definitions of limbo, heads and TeX parts, as they are printed.
pub mod Heads
pub mod Limbo
pub mod TexParts
pub mod model
