-- the answers with the buffers
pub mod Answers
-- suspend, resume, kill and share
pub mod Commands
-- the lines of list
pub mod Lines
