pub mod Acts
pub mod Codes
pub mod Handles
pub mod Held
pub mod Objects
pub mod Written
