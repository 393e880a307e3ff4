pub mod Entries
pub mod PathsOut
