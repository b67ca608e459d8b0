-- The laws of places: of numbers that a test holds of, of places, of what a place is, of the same runs in another order;
-- and of the search: runs put in order, one free run after another, the best of them, the longest.
pub mod Numbers
pub mod Place
pub mod ShortestFit
pub mod SameRuns
pub mod Order
pub mod Search
pub mod Best
pub mod Longest
