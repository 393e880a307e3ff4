pub mod Renaming
pub mod Dropping
pub mod Scanning
