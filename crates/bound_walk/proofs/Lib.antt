pub mod Counted
pub mod Walks
pub mod Replies
