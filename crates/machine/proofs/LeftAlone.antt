-- What a call leaves alone: buffers, the output behind what it writes, other processes and other files.
pub mod Buffers
pub mod Processes
pub mod Files
