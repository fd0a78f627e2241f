-- How the code holds its state: models that inner contracts cite.
pub mod Stack
pub mod Coming
pub mod Calm
pub mod Short
pub mod Starts
pub mod Limbo
pub mod TexTexts
