-- Laws that other files and crates cite.
pub mod EmitsLaws
pub mod NotesLaws
pub mod ProgramLaws
pub mod EndingLaws
pub mod PieceLaws
