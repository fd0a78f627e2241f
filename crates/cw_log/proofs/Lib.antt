-- Laws of what is told.
mod Terms
pub mod LineLaws
pub mod SayLaws
pub mod MakingLaws
pub mod MadeLines
pub mod CheckLaws
pub mod RunLaws
pub mod RecordLaws
pub mod WritingLaws
