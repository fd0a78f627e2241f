-- The definitions of productions: rows, the row that fits, safe distances, rewriting, and the walk with a pointer.
pub mod Masks
pub mod Rows
pub mod Insertions
pub mod Productions
pub mod Fitting
pub mod Safe
pub mod Sound
pub mod Rewriting
pub mod Normal
pub mod NormalWalk
pub mod WalkCounts
pub mod Reaching
pub mod SourceNumbers
pub mod NormalLaws
pub mod Braces
pub mod Reserving
pub mod model
