pub mod Own
pub mod ByTenths
