-- Laws of logs and of judging.
mod Terms
pub mod Decimals
pub mod StepLaws
pub mod Plain
pub mod Cutting
pub mod Telling
pub mod WordLaws
pub mod Names
pub mod Judging
pub mod LineKinds
pub mod CatNames
pub mod DigitLaws
pub mod AppendLaws
pub mod Rows
pub mod Written
pub mod Adding
pub mod NameSteps
pub mod BlockSteps
pub mod Deciding
pub mod Faults
mod CheckTerms
pub mod Prefixes
