pub mod Falling
pub mod Terms
pub mod Enclosed
pub mod Tail
pub mod Comparing
pub mod Sides
pub mod Speeds
pub mod Seconds
pub mod Rows
pub mod Truthful
mod Examples
