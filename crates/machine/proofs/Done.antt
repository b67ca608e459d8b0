-- What every done call answers and leaves.
pub mod Entering
pub mod Starting
pub mod Files
pub mod Processes
pub mod Booting
