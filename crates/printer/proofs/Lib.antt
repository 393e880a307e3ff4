pub mod Writes
pub mod Variables
pub mod Reading
pub mod Answers
pub mod Called
