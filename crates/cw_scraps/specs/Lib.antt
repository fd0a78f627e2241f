-- The definitions of a line of scraps, of the scrap of a token, and of what one production does.
pub mod Lines
pub mod Changing
pub mod Marking
pub mod Applying
pub mod Leaves
pub mod model
