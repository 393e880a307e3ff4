pub mod Keeping
pub mod Halves
pub mod Marking
