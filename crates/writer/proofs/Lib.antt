pub mod Sound
pub mod Answer
pub mod Examples
