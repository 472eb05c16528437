pub mod Plan
pub mod Lanes
