pub mod Whole
pub mod Value
pub mod Promotion
pub mod Compare
pub mod Clock
pub mod Text
