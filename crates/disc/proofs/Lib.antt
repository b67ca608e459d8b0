-- The laws of crate disc, by topic.
pub mod Entries
pub mod Fields
pub mod Goodness
pub mod InARow
pub mod InPlace
pub mod Lengths
pub mod Locations
pub mod Lookups
pub mod Names
pub mod Offsets
