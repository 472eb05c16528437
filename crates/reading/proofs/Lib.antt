mod Scaling
mod Pattern
mod Numbers
pub mod Usable
mod Examples
