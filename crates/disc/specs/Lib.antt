pub mod Layout
pub mod Name
pub mod Directory
pub mod Offsets
