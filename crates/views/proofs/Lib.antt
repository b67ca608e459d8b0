-- Two storages that show the same print the same.
pub mod Alike
pub mod Appended
pub mod Doing
pub mod First
pub mod Listing
pub mod Opening
pub mod Others
pub mod Overwritten
pub mod Putting
pub mod Removed
pub mod Running
pub mod Starting
pub mod Stepping
pub mod Turning
