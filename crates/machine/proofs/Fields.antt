-- The words of specs/Fields, read off the definitions.
pub mod Parts
pub mod Names
pub mod Files
pub mod Slots
pub mod Listings
