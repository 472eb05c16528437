pub mod Rounding
pub mod Stages
pub mod Fraction
pub mod Fitting
