pub mod Constrain
pub mod Map
pub mod Power
pub mod Rows
pub mod Meaning
