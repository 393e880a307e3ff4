pub mod Numbers
pub mod Layout
pub mod Decode
pub mod Kinds
pub mod Tables
pub mod Stores
