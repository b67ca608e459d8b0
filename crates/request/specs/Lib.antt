-- what is left after a request, and what files need
pub mod Answers
-- starting a program
pub mod Starts
