pub mod BytesRead
pub mod Runs
pub mod Kept
pub mod Decoding
pub mod Rows
pub mod Statements
pub mod AtomKinds
pub mod RowKinds
