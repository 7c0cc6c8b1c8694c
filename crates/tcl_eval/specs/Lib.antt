pub mod Running
pub mod Waiting
