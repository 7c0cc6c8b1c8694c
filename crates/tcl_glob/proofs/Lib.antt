pub mod Matching
pub mod Sets
pub mod Letters
pub mod Outcomes
