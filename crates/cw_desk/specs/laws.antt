-- Laws that other files and crates cite.
pub mod BatchLaws
pub mod JournalLaws
pub mod MeaningLaws
