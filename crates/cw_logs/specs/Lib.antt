-- The text of a log, how it is read, and what is found of a log.
pub mod LogText
pub mod LogReading
pub mod LogLaws
pub mod Appending
pub mod Blocks
pub mod Judgement
pub mod Judging
pub mod model
