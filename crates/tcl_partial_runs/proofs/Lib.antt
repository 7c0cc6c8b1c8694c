pub mod Worlds
pub mod Wholes
pub mod Begins
pub mod Kept
pub mod Worked
