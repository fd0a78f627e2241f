-- The proofs of the laws of braces.
mod Terms
pub mod Depths
pub mod Joins
pub mod RowPieces
pub mod CleanScraps
pub mod NewScraps
pub mod Productions
pub mod Wholes
pub mod PlainRows
pub mod Leaves
pub mod Translations
pub mod Flats
pub mod Prints
pub mod Rows
