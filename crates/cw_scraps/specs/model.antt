-- How the code holds its state: models that inner contracts cite.
pub mod Gap
pub mod Inserting
pub mod Building
pub mod Changing
pub mod Turning
pub mod Making
pub mod Replacing
pub mod Modes
pub mod Words
