pub mod Places
pub mod Mapping
pub mod Specifiers
