-- Every operation is a change.
pub mod Tests
pub mod Carrying
pub mod FileAnswers
pub mod Answering
pub mod Turning
pub mod Commanding
