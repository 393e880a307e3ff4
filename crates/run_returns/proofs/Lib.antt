pub mod Returning
pub mod Resulting
