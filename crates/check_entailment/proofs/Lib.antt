pub mod Splits
pub mod Refusals
pub mod Showing
pub mod Adding
