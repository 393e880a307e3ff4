pub mod FreshLabels
pub mod Rebuilding
pub mod KeptLabels
pub mod Relabelling
pub mod Repacking
