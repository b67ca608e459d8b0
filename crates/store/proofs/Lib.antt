-- The laws of crate store, by topic.
pub mod Admissions
pub mod ByteDiscs
pub mod Calls
pub mod Changes
pub mod Checks
pub mod Contents
pub mod Effects
pub mod Invariant
pub mod LookupChanges
pub mod Rooms
pub mod Steps
