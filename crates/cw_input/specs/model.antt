-- How the code holds its state: models that inner contracts cite.
pub mod Answers
pub mod Fold
pub mod Folded
pub mod State
