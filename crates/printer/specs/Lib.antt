pub mod Writes
pub mod Answers
pub mod Variables
