pub mod Written
pub mod Selecting
