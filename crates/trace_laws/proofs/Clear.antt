-- Between connections nothing has struck a process that is open and has no reply (`clear`).
pub mod Facts
