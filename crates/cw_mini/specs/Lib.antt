-- The definitions of small indexes: the rows of a section, the book that C texts leave, and the file.
pub mod Mini
pub mod MiniLaws
pub mod Marks
pub mod MiniFile
pub mod Left
pub mod MiniText
pub mod model
