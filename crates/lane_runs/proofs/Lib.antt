pub mod Steps
pub mod Standing
pub mod Smoothing
