pub mod Clean
pub mod Cuts
pub mod Formulas
pub mod Spans
pub mod Heads
