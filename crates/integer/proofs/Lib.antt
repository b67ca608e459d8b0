-- The laws of crate integer, by topic.
pub mod Representation
pub mod Modular
pub mod Division
pub mod Reduction
