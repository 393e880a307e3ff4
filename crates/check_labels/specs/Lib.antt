pub mod Facts
pub mod Labels
