pub mod Scans
pub mod Table
