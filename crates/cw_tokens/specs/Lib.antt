-- The definitions of stored lists, of their trees, and of the walks that search them, lay them flat and trim them.
pub mod Shapes
pub mod References
pub mod Stored
pub mod Counting
pub mod Walking
pub mod Reserving
pub mod FlatItems
pub mod Trimming
pub mod model
