pub mod Stages
pub mod Counted
pub mod Declared
pub mod Places
pub mod Unframed
