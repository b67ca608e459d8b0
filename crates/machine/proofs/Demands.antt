-- The demands, of every call.
pub mod Refused
pub mod Lasting
pub mod AnswerFaults
pub mod Faulting
pub mod Openings
pub mod Places
pub mod Rounds
pub mod GoodCalls
pub mod Booted
pub mod TurnCalls
pub mod EndFaults
pub mod Lengths
pub mod DiscLengths
