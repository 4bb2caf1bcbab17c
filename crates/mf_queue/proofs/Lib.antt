pub mod Lines
pub mod Seats
pub mod Keeps
pub mod Crossing
