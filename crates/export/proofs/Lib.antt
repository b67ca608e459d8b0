-- document 01's number for an answer
pub mod Numbered
