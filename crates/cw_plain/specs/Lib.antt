-- The definitions of plain text: what each item of a translation is to it, how pieces are laid out in lines, and the
-- file of a web; and what is kept where it is made item by item.
pub mod Pieces
pub mod Lines
pub mod Plain
pub mod Titles
pub mod File
pub mod Conditions
pub mod model
