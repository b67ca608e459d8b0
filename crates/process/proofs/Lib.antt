-- The laws of a process's step, by topic.
pub mod Advancing
pub mod Assigning
pub mod Finishing
