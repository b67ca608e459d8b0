-- The laws of answers, by topic.
pub mod Answering
pub mod Accesses
pub mod Slots
pub mod Started
