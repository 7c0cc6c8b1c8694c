mod Entered
mod Stopped
mod Unfinished
pub mod Below
pub mod Before
mod Recorded
mod Answers
mod Agreeing
mod Savable
mod Serving
mod Depths
mod Series
mod OpenAnswers
mod OpenEntered
mod OpenGivenUp
mod OpenRecorded
