pub mod Bytes
pub mod Search
pub mod Bytewise
pub mod Fields
