-- The definition of the tool that counts sections.
pub mod model
