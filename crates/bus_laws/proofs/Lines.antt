-- What a row of lines leaves on the bus where no connection stands, and what the rules see of it.
pub mod Rows
pub mod Held
pub mod Seen
pub mod Apart
pub mod Ids
pub mod Obeys
