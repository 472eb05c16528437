pub mod Combination
pub mod Part
pub mod Ranges
