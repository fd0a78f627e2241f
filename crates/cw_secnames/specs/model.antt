-- How the code holds its state: models that inner contracts cite.
pub mod Parts
pub mod Inside
pub mod Marks
pub mod Asked
pub mod InsideUses
pub mod Sound
pub mod NameMarks
