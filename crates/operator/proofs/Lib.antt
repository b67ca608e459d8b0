-- The laws of crate operator, by topic.
pub mod Calculating
pub mod OneOperand
pub mod Table
pub mod Zeros
