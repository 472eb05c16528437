pub mod Lanes
pub mod Steps
pub mod Corrections
