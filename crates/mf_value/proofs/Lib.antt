pub mod Same
pub mod Index
