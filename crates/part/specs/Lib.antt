pub mod Part
pub mod Ranges
