-- The laws of the store and its trees: how lists are linked, searched, reserved, laid flat and trimmed.
mod Terms
pub mod Cutting
pub mod Linking
pub mod Storing
pub mod Unfolding
pub mod Searching
pub mod Measuring
pub mod Reaching
pub mod Reserve
pub mod Flattening
pub mod Places
pub mod Rewriting
pub mod Bare
pub mod Trimming
pub mod Standing
pub mod TrimmedWalk
