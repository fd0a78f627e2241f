-- The laws of the C texts of a book: each of them is whole.
mod Terms
mod RefsWhole
