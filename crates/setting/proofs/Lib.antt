pub mod Answer
pub mod Annex3
pub mod Examples
