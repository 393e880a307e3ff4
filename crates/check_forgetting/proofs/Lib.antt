pub mod Starts
pub mod Droppings
pub mod Changes
pub mod Unlisted
pub mod Remainders
