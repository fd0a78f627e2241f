-- The definitions of section names: which are kept, what refers to them, and how they are found and cut.
pub mod Kept
pub mod References
pub mod Parts
pub mod Uses
pub mod Marks
pub mod laws
pub mod model
