-- what an operator does where it stands
pub mod Operating
