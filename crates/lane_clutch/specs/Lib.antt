pub mod Clutch
