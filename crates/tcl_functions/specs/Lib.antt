pub mod Actions
pub mod Aliases
pub mod Calls
pub mod Handing
pub mod Replies
pub mod Serving
