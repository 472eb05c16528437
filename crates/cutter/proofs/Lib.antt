pub mod Sizes
mod Examples
