pub mod Files
pub mod Sound
pub mod Examples
pub mod Versions
