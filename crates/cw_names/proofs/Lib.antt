-- The laws of names, of the hash table in which they lie, and of the sections in which they occur.
mod Terms
pub mod Lookup
pub mod Ends
pub mod First
pub mod Apart
pub mod Table
pub mod Mentions
pub mod WordPlaces
