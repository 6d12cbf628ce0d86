-- The plain disk array has a reply of a process exactly where the rows have shown one (`shown`).
pub mod Facts
