-- The proofs of kept answers: what stands while they come.
mod Terms
mod Standing
mod Reading
pub mod Staying
