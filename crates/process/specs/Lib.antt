-- a process and the step that it takes
pub mod Stepping
