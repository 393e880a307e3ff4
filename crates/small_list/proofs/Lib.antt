pub mod Facts
pub mod Listed
