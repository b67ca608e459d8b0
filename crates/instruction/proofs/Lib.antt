-- what reading a variable finds
pub mod Held
