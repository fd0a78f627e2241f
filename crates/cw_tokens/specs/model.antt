-- How the code holds its state: models that inner contracts cite.
pub mod Stored
pub mod Walking
pub mod FlatItems
pub mod Trimming
pub mod Ahead
