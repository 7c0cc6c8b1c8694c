pub mod Dicts
pub mod Refusing
pub mod Changing
