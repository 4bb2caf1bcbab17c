pub mod Computed
pub mod Once
