pub mod Texts
pub mod Declares
