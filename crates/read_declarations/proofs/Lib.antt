pub mod Lines
pub mod Counts
pub mod Adds
pub mod Walks
pub mod Steps
