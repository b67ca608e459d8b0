pub mod Outcome
pub mod Arithmetic
pub mod Binary
pub mod Conversion
pub mod Unary
pub mod Instruction
