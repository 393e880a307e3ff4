pub mod Puts
pub mod Kept
pub mod Atoms
pub mod Rows
pub mod Methods
pub mod Classes
pub mod Header
pub mod Statements
