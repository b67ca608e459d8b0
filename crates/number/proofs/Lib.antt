-- The laws of crate number, by topic.
pub mod Ahead
pub mod Encoding
pub mod Operands
pub mod Signs
pub mod Texts
