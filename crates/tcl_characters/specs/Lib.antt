pub mod Texts
pub mod Order
pub mod Classes
pub mod Places
pub mod Starts
pub mod Mapping
