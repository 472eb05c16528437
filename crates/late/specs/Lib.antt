pub mod Late
pub mod Ranges
