pub mod Reckoned
