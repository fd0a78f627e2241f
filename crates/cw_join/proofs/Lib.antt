-- The laws of joining: runs, what is printed early and late, what a joiner keeps, and the pieces of names.
mod Terms
pub mod RunLaws
pub mod EarlyLaws
pub mod PrintedLaws
pub mod StateLaws
pub mod NameLaws
pub mod MacroLaws
mod Rows
