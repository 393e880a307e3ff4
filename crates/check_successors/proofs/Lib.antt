pub mod Least
pub mod Marking
pub mod InOrder
