-- Laws that other files and crates cite.
pub mod OnceLaws
pub mod ReferenceLaws
