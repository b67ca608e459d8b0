pub mod File
pub mod Answer
pub mod Room
