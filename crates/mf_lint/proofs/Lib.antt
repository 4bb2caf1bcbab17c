pub mod Canonical
pub mod Lints
