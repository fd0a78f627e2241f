-- How the code holds its state: models that inner contracts cite.
pub mod Count
pub mod File
pub mod Mem
pub mod Quiet
pub mod System
pub mod Trail
