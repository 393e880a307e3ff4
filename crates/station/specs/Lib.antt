pub mod Station
pub mod Demand
pub mod Refusals
pub mod Promises
pub mod Parts
pub mod Counts
