-- The laws of crate scaling, by topic.
pub mod Sizes
pub mod Mapping
pub mod Powers
pub mod Meaning
