pub mod Names
pub mod Replies
pub mod Resets
pub mod Callings
pub mod Outcomes
pub mod Queues
pub mod Senses
pub mod Recoveries
pub mod Openings
mod Cases
mod Limits
mod LimitCases
mod OutcomeCases
mod PremiseCases
