-- What the laws of plain text say.
pub mod PlainLaws
pub mod OwnLaws
