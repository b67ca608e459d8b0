-- what good buffers say
pub mod Passing
-- a step of a running process of good buffers can be carried out
pub mod Bounded
-- what is carried out and printed is the turn
pub mod Printed
-- slot after slot
pub mod Going
-- the ten slots of a round, and the turns of a share
pub mod Rounding
