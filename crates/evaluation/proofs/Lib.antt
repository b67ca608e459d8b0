-- operands popped one below another
pub mod Operands
