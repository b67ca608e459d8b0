-- what an instruction finds
pub mod Ready
-- what a step stands for
pub mod Steps
-- what popping answers
pub mod Tops
-- what an instruction does where it stands
pub mod Frames
