pub mod Rewriting
pub mod Rewritten
