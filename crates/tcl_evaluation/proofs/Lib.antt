mod Awaited
mod Calling
mod Catching
mod Choosing
mod Gathering
mod Conditions
mod Dispatching
pub mod Ends
mod Entered
mod Levelling
mod Looping
mod Plainly
mod Requesting
mod TwoOperands
mod Staying
mod Targets
mod Walking
mod Writing
mod Alone
pub mod HandCalling
mod Counting
pub mod Computing
mod FirstOperands
pub mod Found
pub mod Own
pub mod HandPlainly
mod Standing
pub mod Steps
mod Summing
