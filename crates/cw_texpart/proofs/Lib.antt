-- The laws of limbo, heads and TeX parts: inks, and pieces woven one after another.
mod Terms
pub mod DepthLaws
pub mod LayingLaws
pub mod WeavingLaws
pub mod SectionLaws
mod Rows
