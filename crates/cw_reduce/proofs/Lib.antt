-- The laws of translating a whole text: heads, section names, and what is shown.
pub mod Terms
mod TranslatedRows
pub mod ReadSteps
pub mod Joined
pub mod ShownLaws
pub mod HeadsShown
pub mod NameSteps
pub mod HeadAnswers
pub mod HeadMakes
pub mod AloneSteps
