-- The laws of a line of scraps and of one production on it: its gap, lists, trees, modes and reservings.
mod Terms
pub mod Gaps
pub mod RowPieces
pub mod Buildings
pub mod Insertions
pub mod Changings
pub mod Reservings
pub mod JoinedTrees
pub mod Fits
pub mod Splices
pub mod Growing
pub mod Productions
pub mod ModeLaw
pub mod Keeping
pub mod Applied
pub mod LeafForms
pub mod FirstRows
