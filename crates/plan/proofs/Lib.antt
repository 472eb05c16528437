pub mod Places
pub mod Rows
pub mod Entering
pub mod Blocks
pub mod Whole
pub mod Parts
