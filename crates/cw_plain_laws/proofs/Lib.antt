-- The laws of plain text.
mod Terms
pub mod Again
pub mod Simple
pub mod Walks
pub mod FoundTokens
pub mod KeptTrees
pub mod Tests
pub mod ConstantLaws
pub mod StringLaws
pub mod AgainLaws
pub mod SpacedLaws
pub mod CutConstants
pub mod CutStrings
pub mod AloneTokens
pub mod WalkLaws
pub mod LeafWalks
pub mod TrimLaws
pub mod MadeWalks
pub mod OwnInks
pub mod Additions
pub mod TranslatedWalks
pub mod BareTrees
pub mod ScannedAgain
mod Rows
