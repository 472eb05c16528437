pub mod Stops
pub mod Examples
