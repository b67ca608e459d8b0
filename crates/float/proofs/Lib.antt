-- The laws of crate float, by topic.
pub mod Tests
pub mod Patterns
pub mod Fractions
pub mod Ranges
pub mod Values
pub mod Sizes
pub mod Hundredths
pub mod Exactly
pub mod Scaling
pub mod LastDigit
pub mod RoundedRoot
pub mod RootCases
pub mod RootMiddles
pub mod NearestRoot
