pub mod Place
pub mod NextRun
pub mod ShortestFit
