-- The laws of the first phase: what each answer keeps, and what holds of the book that comes of all answers.
mod Terms
mod Rows
pub mod PlaceLaws
pub mod NameLaws
pub mod MissingLaws
pub mod ChangedLaws
pub mod Passing
pub mod Ignored
pub mod Outlines
pub mod WordLaws
pub mod Underway
pub mod Referred
pub mod RoleLaws
pub mod SpanLaws
pub mod NameSizes
pub mod LimboRoles
pub mod Closings
pub mod PartEnds
pub mod WholeSections
pub mod FreeTokens
