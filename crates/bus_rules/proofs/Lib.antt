pub mod Courses
pub mod Running
pub mod DataRows
pub mod Past
pub mod First
mod Words
