-- Data runs and disconnections follow the policy of the target.
pub mod Rows
pub mod Bytes
