-- The definitions of the index, of the section list and of the closing lines, and of the order of entries.
pub mod Collation
pub mod Completeness
pub mod Sorted
pub mod Mentions
pub mod Index
pub mod WordLaws
pub mod Closing
pub mod Standing
pub mod NameList
pub mod WholeNames
pub mod laws
pub mod model
