-- the bench cases, the misreadings, the rows of DELAYUNTIL and of scaling
pub mod Bench
pub mod Cases
-- the rows of rounds with shares
pub mod ShareRows
