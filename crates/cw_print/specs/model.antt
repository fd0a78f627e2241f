-- How the code holds its state: models that inner contracts cite.
pub mod Dividing
pub mod Signs
pub mod Found
pub mod Scanning
pub mod Titles
pub mod NamesAhead
pub mod Walked
pub mod Coming
pub mod Printing
