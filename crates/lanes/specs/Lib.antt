pub mod Lanes
pub mod Corrections
