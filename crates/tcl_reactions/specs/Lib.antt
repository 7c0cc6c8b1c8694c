pub mod Playing
pub mod Moving
pub mod Laws
pub mod Example
