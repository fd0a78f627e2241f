-- The laws of printing C texts: pieces of comments, tokens that are found, and items that may come.
mod Terms
pub mod PieceLaws
pub mod DividingLaws
pub mod PlainLaws
pub mod ScanLaws
pub mod ComingLaws
pub mod ShownLaws
pub mod PrintingLaws
pub mod NameLaws
mod TokenRows
