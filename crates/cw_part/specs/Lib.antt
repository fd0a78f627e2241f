-- The definitions of sections behind their TeX parts: definitions, C parts, and how a section ends.
pub mod Parts
pub mod Sections
pub mod model
