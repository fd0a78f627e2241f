-- Laws that other files and crates cite.
pub mod ComparedLaws
pub mod CutLaws
pub mod CutOnLaws
pub mod FillLaws
pub mod SheetLaws
pub mod WritesLaws
