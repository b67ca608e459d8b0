-- what a turn needs and leaves
pub mod Turns
