pub mod Names
pub mod Quiet
pub mod Callees
pub mod Outcomes
pub mod Queues
pub mod Owed
pub mod Debts
mod DebtCases
