pub mod Table
pub mod Judging
pub mod Ranges
