pub mod Ready
pub mod DeviceValue
pub mod Devices
pub mod Links
pub mod Steps
