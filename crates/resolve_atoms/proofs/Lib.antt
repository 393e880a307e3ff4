pub mod Sides
pub mod Formulas
pub mod Goods
