-- What is made of bytes is bytes: from buffers of bytes every call leaves buffers of bytes.
pub mod Outcomes
pub mod Scaling
pub mod NumberBytes
pub mod Stacks
pub mod EffectBytes
pub mod ExecBytes
pub mod ByteStates
pub mod ByteSteps
pub mod AnswerBytes
pub mod TurnBytes
pub mod CallBytes
