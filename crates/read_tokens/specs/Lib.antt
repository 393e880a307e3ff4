pub mod Names
pub mod Expressions
