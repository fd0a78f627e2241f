-- How the code holds its state: models that inner contracts cite.
pub mod Headings
pub mod StandingForms
pub mod ListForms
