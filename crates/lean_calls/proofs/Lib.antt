pub mod Stuck
pub mod Above
pub mod Calling
pub mod Returning
pub mod Growing
