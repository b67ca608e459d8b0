-- What an instruction leaves of its process.
pub mod Sound
pub mod Popping
pub mod Settling
pub mod Numbering
pub mod InstructionBytes
pub mod EffectParts
pub mod Executing
