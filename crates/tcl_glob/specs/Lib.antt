pub mod Patterns
pub mod Fronts
pub mod Laws
