pub mod First
pub mod Last
pub mod Maps
pub mod Specifiers
