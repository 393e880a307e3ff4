pub mod States
pub mod Questions
