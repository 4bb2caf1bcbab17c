pub mod Sums
pub mod Account
pub mod Rule
pub mod Acts
pub mod Taught
pub mod Standing
