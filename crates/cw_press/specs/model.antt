-- How the code holds its state: models that inner contracts cite.
pub mod Translation
pub mod Printing
pub mod PartForms
