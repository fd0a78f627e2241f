-- What the laws of braces say.
pub mod Bracing
pub mod Operators
pub mod PlainTexts
pub mod Printed
pub mod BraceLaws
