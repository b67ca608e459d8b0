-- The laws of reading and writing the parts of the work area, by topic.
pub mod Reading
pub mod Made
pub mod Lengths
pub mod Writing
pub mod Front
