-- How the code holds its state: models that inner contracts cite.
pub mod LinePieces
pub mod Lines
pub mod Blocks
