pub mod InBlock
pub mod Moves
pub mod Full
pub mod Left
pub mod Routes
pub mod Promises
