mod Branching
pub mod Calls
pub mod Commands
pub mod Counting
pub mod Everywhere
pub mod Facts
pub mod RowsComputed
