pub mod Laws
pub mod Replying
pub mod Steps
pub mod Streams
