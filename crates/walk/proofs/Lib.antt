pub mod Walk
pub mod Stores
pub mod Pairs
pub mod Ends
pub mod Listed
pub mod Same
