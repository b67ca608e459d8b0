-- the kernel's state, its bytes, and when they are good
pub mod Limits
pub mod State
pub mod Ended
pub mod Area
pub mod GoodArea
-- one instruction, as a function of its process
pub mod Stack
pub mod Instruction
-- the faults by name
pub mod Fault
pub mod Effect
pub mod Asking
pub mod Exec
-- one turn: what the instruction does to disc and state
pub mod Start
pub mod Beyond
pub mod Turn
-- every call
pub mod Operations
pub mod Answer
-- isolation: the single process, a run as its events, what is observed, what is supposed, the claim
pub mod Single
pub mod Trace
pub mod Observation
pub mod Suppositions
pub mod Isolation
-- the other demands, of every call
pub mod Fields
pub mod Tests
pub mod Refusals
pub mod Ending
pub mod NoPlace
pub mod Demands
pub mod AtPc
pub mod Changed
pub mod Faults
pub mod Reaching
pub mod Done
pub mod LeftAlone
-- a disc of either length
pub mod DiscLengths
-- a wait keeps its time
pub mod Waiting
-- a file that OPEN creates reads empty
pub mod NewFile
