pub mod Ends
pub mod Entering
pub mod Language
pub mod Notifying
pub mod Outsides
pub mod Plain
pub mod Runs
