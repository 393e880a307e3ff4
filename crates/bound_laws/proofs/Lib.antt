pub mod Removal
pub mod Routes
pub mod Blocks
pub mod Repeating
