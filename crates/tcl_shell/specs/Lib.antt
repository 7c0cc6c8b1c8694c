pub mod Beginning
pub mod CommandLine
pub mod Evaluating
pub mod Program
pub mod Reading
pub mod Telling
