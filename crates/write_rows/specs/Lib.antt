pub mod Puts
pub mod Holds
