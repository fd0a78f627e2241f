-- How the code holds its state: models that inner contracts cite.
pub mod Texts
pub mod Packed
pub mod LinePlaces
pub mod Placing
pub mod Outlining
pub mod Referring
pub mod Telling
pub mod Holding
pub mod Ready
pub mod Ending
