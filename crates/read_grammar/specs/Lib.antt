pub mod Rows
pub mod Coded
