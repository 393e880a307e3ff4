pub mod Layout
pub mod Keys
pub mod Listing
pub mod Links
