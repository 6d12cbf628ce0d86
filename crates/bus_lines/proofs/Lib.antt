pub mod Lasts
pub mod Early
pub mod Times
pub mod Stands
pub mod Standing
