pub mod Gas
pub mod Fields
pub mod Sheet
pub mod Sound
