pub mod Targets
pub mod Right
