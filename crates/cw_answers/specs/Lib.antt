-- The definitions of kept answers: what each stands for over the text, and scans that keep them.
pub mod Reading
pub mod model
