-- The laws of the book, of its C texts and what they leave, of the scanner's answers and of TeX text.
mod Rows
mod SectionRows
pub mod SectionCodes
pub mod Openers
pub mod PartCodes
pub mod WholeBooks
pub mod CutNotes
pub mod NotePlaces
pub mod HashLines
pub mod WhiteSpace
pub mod Strings
pub mod SectionBytes
pub mod Wanted
pub mod LongestSigns
pub mod CParts
pub mod Longest
pub mod Insides
pub mod StillOpen
pub mod QuoteCodes
pub mod EndCodes
pub mod Ends
pub mod PlainText
mod Endings
mod CutLines
mod FileEvents
mod FileLaws
mod GreetingRun
mod TexPlaces
mod QuietParts
pub mod ProseLaws
pub mod BookTexts
pub mod BookMarks
pub mod FlagLaws
pub mod LeftBooks
