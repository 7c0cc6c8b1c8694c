pub mod Boundary
pub mod Crossings
pub mod Records
pub mod Recording
pub mod Laws
