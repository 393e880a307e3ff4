pub mod Keys
pub mod Listing
pub mod Labels
