pub mod Buffer
pub mod Rows
pub mod Sheet
pub mod Alike
