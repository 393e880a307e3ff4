pub mod Scopes
pub mod Fields
pub mod Lines
pub mod Goods
