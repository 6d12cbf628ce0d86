-- The measure is within the budget at the start, and what follows where it falls with each row.
pub mod Start
pub mod Small
pub mod Finish
