-- what C gets back
pub mod Returned
