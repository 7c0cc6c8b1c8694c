pub mod Deleting
pub mod Failing
pub mod HiddenCalls
pub mod Limits
pub mod Programs
pub mod Subcommands
pub mod Subjects
