-- parts of the state and their bytes
pub mod Parts
