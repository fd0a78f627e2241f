-- What productions see of scraps, leaf lines, and the laws that these tell the log.
pub mod Sights
pub mod LeafLines
pub mod LogLaws
pub mod Spelling
pub mod model
