pub mod Least
pub mod Choice
