pub mod Firsts
pub mod Keeping
pub mod Choosing
pub mod Finding
pub mod Sizes
