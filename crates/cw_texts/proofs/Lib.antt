-- Laws of the pieces of TeX parts, of what is there, of texts one behind another, and of those still to come.
mod Terms
pub mod PieceLaws
mod PrintedLaws
mod RefLaws
mod ComingLaws
mod WholePieces
mod WholeDefinitions
