-- The laws of the operations on the disc alone.
pub mod Checks
pub mod Lines
pub mod Outputs
