pub mod StarRead
