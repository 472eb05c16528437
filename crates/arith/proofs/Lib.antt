pub mod Parts
pub mod Ring
pub mod Machine
pub mod Rounding
pub mod Enclosure
pub mod Size
pub mod Width
mod Examples
