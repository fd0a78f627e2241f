-- Laws that other files and crates cite.
pub mod CollationLaws
pub mod StandingLaws
