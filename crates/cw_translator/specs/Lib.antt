-- The definitions of translations: what answers come to, how texts are reduced and put together.
pub mod Translating
pub mod Counting
pub mod Reading
pub mod Commenting
pub mod Opening
pub mod Retyping
pub mod NameParts
pub mod Holders
pub mod Recording
pub mod Working
pub mod model
