-- The laws of section names: how they are entered and found, what refers to them, and their parts between bars.
mod Rows
pub mod Finding
pub mod Linked
pub mod Marked
pub mod Nearest
pub mod NamedMarks
pub mod References
pub mod Using
pub mod PartLaws
