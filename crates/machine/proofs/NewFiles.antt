-- A file that OPEN creates reads empty: the OPEN, what may come between, the READSTRING.
pub mod Creating
pub mod EmptyReading
pub mod Between
pub mod Turns
