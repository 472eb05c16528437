pub mod Examples
pub mod Clutch
