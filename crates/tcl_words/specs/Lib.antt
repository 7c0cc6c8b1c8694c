pub mod Outcomes
pub mod Faults
pub mod Arguments
pub mod Words
pub mod Spans
pub mod Limits
