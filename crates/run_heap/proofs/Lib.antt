pub mod Words
pub mod Halves
pub mod Reading
pub mod Walking
