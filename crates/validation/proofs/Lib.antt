-- The laws of the tests of a good area on its bytes, by topic.
pub mod Zeros
pub mod Slots
pub mod Columns
pub mod Clashes
pub mod Files
pub mod VariableTests
pub mod Goodness
