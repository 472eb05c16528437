pub mod Sheet
pub mod Engine
pub mod Accepted
