-- The laws of what is printed: pieces woven one after another, C texts, footnotes, and the section at hand.
mod Terms
pub mod WeavingLaws
pub mod WovenLaws
pub mod PrintLaws
pub mod TextLaws
pub mod FootnoteLaws
pub mod SectionLaws
mod Rows
