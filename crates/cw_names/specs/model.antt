-- How the code holds its state: models that inner contracts cite.
pub mod Wanting
pub mod Inside
pub mod Table
pub mod Noted
