pub mod Lengths
pub mod Shorter
pub mod Options
pub mod Words
