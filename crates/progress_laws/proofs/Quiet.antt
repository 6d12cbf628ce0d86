-- Where nothing is due of any device, the bus is free and no line is true.
pub mod Acts
pub mod Connections
pub mod Apart
pub mod Facts
