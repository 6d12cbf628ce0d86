-- How each command of a prompt trace ended, and why.
pub mod Delivered
pub mod Causes
pub mod Checked
pub mod First
pub mod Exact
