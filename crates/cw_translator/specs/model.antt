-- How the code holds its state: models that inner contracts cite.
pub mod Reading
pub mod Opening
pub mod Holders
pub mod LinesDone
