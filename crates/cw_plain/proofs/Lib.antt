-- The laws of plain text that is made item by item, and of the file that is written text by text.
mod Terms
pub mod LayingLaws
pub mod WalkingLaws
pub mod MakingLaws
pub mod FileLaws
mod Rows
