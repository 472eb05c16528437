pub mod Upshifts
