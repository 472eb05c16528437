pub mod Gears
pub mod Seconds
pub mod Smoothing
pub mod Corrected
