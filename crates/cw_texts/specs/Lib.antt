-- The definitions of C texts: the pieces of TeX parts, definitions one by one, the texts of a book in order, and texts
-- that no section code cuts.
pub mod Scans
pub mod TexPieces
pub mod PieceForms
pub mod Definitions
pub mod DefinitionForms
pub mod Printed
pub mod Texts
pub mod Coming
pub mod WholeTexts
pub mod model
