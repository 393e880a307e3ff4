pub mod Searches
pub mod Pairs
pub mod Numbers
pub mod Ways
