pub mod Specifiers
pub mod Pieces
pub mod Layouts
pub mod Filling
