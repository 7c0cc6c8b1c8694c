pub mod Rows
pub mod Safety
