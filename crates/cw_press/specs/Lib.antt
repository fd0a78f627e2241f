-- The definitions of what the parts of a book are printed with: what a piece of the book prints and leaves, what its C
-- texts and its footnotes print, what stands beside a section's number, and what calls do.
pub mod Inks
pub mod Done
pub mod Texts
pub mod Beside
pub mod Footnotes
pub mod Weaving
pub mod model
