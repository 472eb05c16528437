pub mod House
pub mod Written
