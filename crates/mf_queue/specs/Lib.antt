pub mod Line
pub mod Queue
pub mod Steps
pub mod Duties
