-- How a phase that has begun is left: for what its target is due to go to, to recover where parity was wrong.
pub mod Rows
pub mod Recoveries
pub mod GiveUps
