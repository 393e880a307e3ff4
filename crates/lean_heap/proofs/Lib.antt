pub mod Bares
pub mod Finding
pub mod Following
