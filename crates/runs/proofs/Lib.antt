pub mod Runs
pub mod Fuel
pub mod Frame
pub mod Examples
pub mod Fills
pub mod Taken
pub mod Unmarked
pub mod Alike
