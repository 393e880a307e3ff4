pub mod Shares
pub mod Regions
pub mod Handing
pub mod Cells
pub mod Taking
pub mod Sieves
