pub mod Judging
pub mod Choice
pub mod Versions
