pub mod Headers
pub mod Copied
