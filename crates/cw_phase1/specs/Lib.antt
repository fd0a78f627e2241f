-- The definitions of the book: texts, roles, words, sections, uses and notes, and what is held on the way.
pub mod Texts
pub mod Entering
pub mod Roles
pub mod Words
pub mod Uses
pub mod Places
pub mod Sections
pub mod Notes
pub mod Missing
pub mod Book
pub mod Changed
pub mod Outline
pub mod Sound
pub mod Whole
pub mod model
