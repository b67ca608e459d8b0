-- lists of bytes; what is written is read back: the area's bytes and the state
pub mod Bytes
-- a good area as facts
pub mod Goodness
-- what an instruction leaves of its process
pub mod Instructions
-- the kinds of change; slots, IDs and files in a good state
pub mod Changes
-- what each kind of change keeps
pub mod Kept
-- every operation is a change
pub mod Operations
-- what disc and work area say, in the words of the demands
pub mod Fields
-- the demands, of every call
pub mod Demands
-- what every done call answers and leaves
pub mod Done
-- the instructions that reach beyond their process, exactly
pub mod Reaching
-- bytes stay bytes
pub mod InBytes
-- isolation: the events of a run, and what they leave of a process
pub mod Traces
-- what a call leaves alone
pub mod LeftAlone
-- a wait keeps its time
pub mod Waiting
-- a file that OPEN creates reads empty
pub mod NewFiles
