-- the bench cases, the misreadings, the rows of DELAYUNTIL and of scaling
pub mod BenchCases
-- the rows of rounds with shares hold
pub mod ShareCases
