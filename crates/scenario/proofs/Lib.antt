pub mod Reader
pub mod Insert
pub mod HexDigits
pub mod TapeNeeds
pub mod UnitLines
pub mod PartsAgain
pub mod FormsAgain
pub mod Again
pub mod Steps
pub mod Declared
pub mod Lawful
pub mod Lowest
pub mod OnTapes
mod TextsTwoThree
pub mod Only
pub mod Obeying
pub mod Made
mod MadeCases
pub mod Computed
mod TapeCases
