-- Laws that other files and crates cite.
pub mod WebLaws
