pub mod Framing
pub mod Calling
pub mod Making
pub mod Growing
