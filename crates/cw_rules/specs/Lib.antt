-- The rules of tokens: what begins at a place of a web, how many bytes belong to it, and which notes it has.
pub mod Bytes
pub mod Signs
pub mod Constants
pub mod Prefixes
pub mod Codes
pub mod ControlTexts
pub mod Bodies
pub mod Names
pub mod Answers
pub mod Tokens
pub mod Pending
pub mod Order
pub mod model
