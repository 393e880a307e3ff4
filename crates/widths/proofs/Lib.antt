pub mod ReadBounds
pub mod RunBounds
pub mod Words
pub mod Returned
