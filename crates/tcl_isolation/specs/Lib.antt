pub mod Visits
pub mod Limits
pub mod Laws
pub mod Scripts
