pub mod Gases
pub mod ReadIn
pub mod Ranges
