pub mod Annex3
pub mod Setting
