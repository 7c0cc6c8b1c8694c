pub mod Options
pub mod Parts
pub mod Comparing
pub mod Searching
pub mod Making
pub mod Kinds
pub mod Subcommands
