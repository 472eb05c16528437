pub mod Lot
pub mod Kept
pub mod Room
