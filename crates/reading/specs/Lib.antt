pub mod Units
pub mod Pattern
