pub mod Calls
pub mod Whole
pub mod Starts
pub mod OneFault
