pub mod Gas
pub mod Sound
