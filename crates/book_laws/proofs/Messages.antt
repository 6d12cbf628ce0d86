-- The bytes of message phases form messages, the first of them an IDENTIFY, and none is left half (rule 25).
pub mod Stays
pub mod Rules
pub mod First
