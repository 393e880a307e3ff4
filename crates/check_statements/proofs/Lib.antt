pub mod Ruled
pub mod Opening
pub mod Conditions
