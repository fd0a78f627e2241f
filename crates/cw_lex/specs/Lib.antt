-- The definitions of the scanner: how its answers follow from the rules, how they are nested, and where parts begin.
pub mod Lexing
pub mod Nested
pub mod Nest
pub mod Heads
pub mod NestLaws
pub mod Parts
pub mod Limbo
pub mod Openings
pub mod model
