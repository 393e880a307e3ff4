pub mod Reaches
pub mod Shares
pub mod Turns
pub mod Alone
pub mod Kept
pub mod Counts
