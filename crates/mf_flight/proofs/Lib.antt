pub mod Sums
pub mod Puts
pub mod Counted
