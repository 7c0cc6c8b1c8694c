pub mod Forms
pub mod Invoking
pub mod Limiting
pub mod Named
pub mod Options
pub mod Programs
pub mod Stepping
pub mod Subjects
