-- The definitions of names and of the built-in words, and of the sections in which names occur, with their laws.
pub mod Names
pub mod Words
pub mod Mentions
pub mod laws
pub mod model
