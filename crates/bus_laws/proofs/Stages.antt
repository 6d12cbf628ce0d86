-- In each stage up to a connection the row that is due obeys the rules, and leads to a stage.
pub mod Dues
pub mod CallDues
pub mod Free
pub mod Arbitration
pub mod Won
pub mod Calling
pub mod Answer
pub mod Next
pub mod Facts
