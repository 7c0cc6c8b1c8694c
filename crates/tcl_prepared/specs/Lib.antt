pub mod Views
pub mod Brackets
pub mod Falls
