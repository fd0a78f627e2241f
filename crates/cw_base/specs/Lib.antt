-- The definitions that all crates share: categories, conditions, exits, flags, notes, words on texts, and the merged
-- web.
pub mod Bytes
pub mod Category
pub mod Conditions
pub mod Flags
pub mod Notes
pub mod Text
pub mod Web
pub mod laws
pub mod model
