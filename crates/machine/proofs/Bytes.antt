-- Texts of bytes; what is written is read back: the area's bytes and the state.
pub mod ByteTexts
pub mod Sizes
pub mod Records
pub mod Area
