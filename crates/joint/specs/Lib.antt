pub mod Claims
pub mod Counts
