pub mod Limits
pub mod Language
pub mod Replies
pub mod HostLaws
pub mod UnfinishedLaws
pub mod Budgets
pub mod BudgetLaws
