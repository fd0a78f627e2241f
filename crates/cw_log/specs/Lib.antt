-- What is told of the scraps of a text and of its productions.
pub mod Logged
pub mod Making
pub mod Checking
pub mod Check
pub mod LogOfWeb
pub mod Command
pub mod model
