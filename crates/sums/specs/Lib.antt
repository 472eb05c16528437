pub mod Sums
pub mod Rows
pub mod Statements
