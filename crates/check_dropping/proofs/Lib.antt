pub mod GivingWay
pub mod Untouched
pub mod Ways
