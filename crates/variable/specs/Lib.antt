pub mod Limits
pub mod Bytes
pub mod Table
pub mod Assign
pub mod Good
pub mod Closing
