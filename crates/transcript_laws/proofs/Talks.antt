-- What is said before anything else in a connection: names, and COMMAND COMPLETE only after STATUS.
pub mod Named
pub mod Status
pub mod Aborts
pub mod Again
