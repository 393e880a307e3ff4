pub mod Scans
pub mod Table
pub mod Formed
