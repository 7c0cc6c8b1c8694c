pub mod Beginnings
pub mod Keeping
pub mod Example
