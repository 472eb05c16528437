pub mod NonMethane
pub mod Ranges
