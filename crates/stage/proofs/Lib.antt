pub mod UpTo
pub mod Steps
pub mod Sizes
pub mod Examples
