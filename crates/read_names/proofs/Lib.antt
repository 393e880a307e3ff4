pub mod Searches
pub mod Keys
pub mod Puts
