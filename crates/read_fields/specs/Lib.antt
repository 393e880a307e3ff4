pub mod Cuts
pub mod Spans
