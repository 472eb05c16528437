pub mod Sizes
pub mod Counting
pub mod Comparing
pub mod Places
pub mod Choosing
pub mod Marks
pub mod Examples
