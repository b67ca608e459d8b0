-- The laws of crate buffer, by topic.
pub mod Bools
pub mod Buffer
pub mod ByteLists
pub mod Disjunctions
pub mod Each
pub mod Equivalence
pub mod FixedWidth
pub mod Fours
pub mod Kept
pub mod Lines
pub mod Lists
pub mod Parts
pub mod Runs
pub mod Scattered
pub mod Tables
pub mod Words
