pub mod Settings
pub mod Calls
