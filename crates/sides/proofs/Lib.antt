pub mod Each
pub mod Readings
pub mod Taken
pub mod Sizes
