pub mod Stacks
pub mod TargetsRight
pub mod Nesting
pub mod Finished
