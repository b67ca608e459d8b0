-- The laws of the whole square root.
pub mod Squares
pub mod Bisection
