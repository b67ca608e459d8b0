-- popping, from what the code answers
pub mod Popping
-- one number popped below another
pub mod Chains
-- what a push leaves
pub mod Steps
