pub mod Draft
pub mod Gap
pub mod Statements
