-- What the parts make of the account of a process goes on as what it has carried does.
pub mod Items
pub mod Steps
