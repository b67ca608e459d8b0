-- The kinds of change; slots, IDs and files in a good state.
pub mod Change
pub mod Slots
pub mod LiveIds
pub mod Directories
pub mod LiveRecords
pub mod Replaced
