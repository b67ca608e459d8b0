-- Isolation: the events of a run, and what they leave of a process.
pub mod CallEffects
pub mod Following
pub mod Room
pub mod OwnInputs
pub mod Stepping
pub mod Chains
pub mod RoundParts
pub mod RoundEvents
pub mod Runs
pub mod FreshStart
pub mod AnyBuffers
pub mod RunEvents
pub mod Isolated
