pub mod Bits
pub mod Compare
pub mod Decode
pub mod Print
pub mod Scale
pub mod Sqrt
pub mod Whole
