-- The definitions of the C texts of a book as they are translated one after another, and that each of them can be.
pub mod EachText
pub mod EachForms
pub mod WholeRefs
