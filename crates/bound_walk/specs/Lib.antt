pub mod Counting
pub mod Walk
