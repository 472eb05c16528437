pub mod Exponential
pub mod Fitting
pub mod Speeds
pub mod Accepted
pub mod Exact
pub mod Cruise
