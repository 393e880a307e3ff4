pub mod Sides
pub mod Scans
