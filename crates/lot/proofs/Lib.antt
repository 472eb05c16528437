pub mod Each
pub mod Sound
pub mod Kept
mod Examples
