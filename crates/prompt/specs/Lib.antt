pub mod Prompt
pub mod Run
