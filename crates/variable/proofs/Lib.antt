-- The laws of crate variable, by topic.
pub mod Views
pub mod Bytes
pub mod Closing
pub mod Freeing
pub mod Adding
pub mod Reading
pub mod Setting
pub mod Listing
pub mod Goodness
