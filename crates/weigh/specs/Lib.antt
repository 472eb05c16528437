pub mod Test
pub mod Ranges
