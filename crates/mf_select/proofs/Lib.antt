pub mod Advancing
pub mod Rows
pub mod Least
pub mod Fitting
pub mod Together
pub mod Valid
pub mod Telling
