pub mod Moves
pub mod Answering
pub mod Players
pub mod Lines
pub mod Words
