pub mod Division
pub mod Powers
pub mod Digits
pub mod Results
