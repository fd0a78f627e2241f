-- The definitions of what C texts print: each kind of token, each item of a list, and the list as a whole.
pub mod Escaping
pub mod Constants
pub mod Texts
pub mod Comments
pub mod Tokens
pub mod Found
pub mod Showing
pub mod Walk
pub mod Sources
pub mod model
