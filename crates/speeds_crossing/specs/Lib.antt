pub mod Speeds
pub mod ShiftTenths
