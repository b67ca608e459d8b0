-- What each kind of change keeps.
pub mod Begins
pub mod Begun
pub mod Gone
pub mod Spared
pub mod StartKept
pub mod OutsideKept
pub mod OutsideSpares
pub mod EndedIds
pub mod OwnKept
pub mod OwnSpared
pub mod OwnEnd
pub mod WritesKept
pub mod LengthKept
pub mod ChangeKept
