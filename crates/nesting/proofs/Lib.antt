pub mod ReadOrder
pub mod Returns
