pub mod Phases
pub mod Versions
pub mod Written
pub mod Drafts
