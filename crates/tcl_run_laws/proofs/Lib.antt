pub mod Limiting
mod Nearness
mod Holding
mod Deeds
pub mod Taping
mod Hosted
mod Counted
pub mod HostedWholes
mod Placed
mod UnfinishedHolding
mod UnfinishedHosted
mod GivenUp
mod Uncut
pub mod Beginning
pub mod Orders
pub mod Tables
mod Spared
pub mod BudgetWholes
