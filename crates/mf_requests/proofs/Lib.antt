pub mod Entries
pub mod Putting
pub mod Turns
pub mod Showing
pub mod Requests
