pub mod ByTenths
