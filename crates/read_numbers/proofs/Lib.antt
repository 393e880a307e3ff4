pub mod Numbers
pub mod NumberFields
