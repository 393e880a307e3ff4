pub mod Good
pub mod Written
