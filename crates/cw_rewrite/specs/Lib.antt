-- What is said of rewriting a line, of who is told of it, and of the lists into which scraps are gathered.
pub mod Reduction
pub mod Gathering
pub mod Telling
pub mod model
