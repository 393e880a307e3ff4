pub mod Lines
pub mod Items
pub mod Steps
