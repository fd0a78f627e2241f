-- How the code holds its state: models that inner contracts cite.
pub mod DefinitionForms
pub mod Coming
pub mod WholePieces
pub mod WholeDefinitions
