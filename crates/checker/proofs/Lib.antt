pub mod Stepping
pub mod Blocks
