-- The definitions of section names and heads, of what of a text is shown, and the laws that a translation has.
pub mod Visible
pub mod TranslationLaws
pub mod Naming
pub mod HeadReading
pub mod Heading
pub mod WholeTexts
pub mod model
