mod Binding
mod Branching
mod Choosing
mod Closing
mod Gathering
mod Crossing
mod Telling
mod Hosted
mod Handling
mod Keeping
mod Settling
mod Kept
mod Levelling
mod KeptNames
mod Stops
mod Turning
mod Walking
pub mod Asked
pub mod Carried
pub mod Changing
pub mod Counting
pub mod Listed
pub mod Looks
pub mod Reached
pub mod Served
pub mod Standing
pub mod EntryTelling
mod Ends
