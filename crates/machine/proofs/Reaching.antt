-- The instructions that reach beyond their process, exactly.
pub mod Tops
pub mod Finding
pub mod Going
pub mod Setting
pub mod Opening
pub mod FileBytes
pub mod Forking
pub mod Waiting
pub mod Bounding
