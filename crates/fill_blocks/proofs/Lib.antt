pub mod Calling
pub mod Apart
pub mod Passing
