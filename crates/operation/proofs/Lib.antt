-- The laws of the operations on both buffers, by topic.
-- the tests that come first: refused by one, or passed
pub mod FirstTests
-- the commands and share behind the tests
pub mod Commanding
-- the lines of list
pub mod Lines
