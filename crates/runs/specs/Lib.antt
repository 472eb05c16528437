pub mod Runs
pub mod Corrected
