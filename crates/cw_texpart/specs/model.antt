-- How the code holds its state: models that inner contracts cite.
pub mod Laying
pub mod PartForms
