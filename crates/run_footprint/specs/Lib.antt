pub mod Footprints
