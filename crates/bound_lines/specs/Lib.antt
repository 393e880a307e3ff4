pub mod Reach
pub mod Lines
