pub mod Grammar
pub mod Messages
