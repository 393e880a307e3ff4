pub mod Small
pub mod Claims
