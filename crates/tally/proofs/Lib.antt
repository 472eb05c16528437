pub mod Sound
pub mod Counts
mod Examples
