pub mod Row
pub mod Corrections
