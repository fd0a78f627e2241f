-- The definitions of joined text: stretches and runs, what is printed early, and what a joiner stands for.
pub mod Stretches
pub mod Appending
pub mod Early
pub mod Runs
pub mod Tokens
pub mod Standing
pub mod model
