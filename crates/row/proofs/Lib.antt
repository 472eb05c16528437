pub mod Passes
pub mod Ranges
pub mod Examples
pub mod Unmarked
pub mod Alike
