pub mod Called
pub mod Pieces
pub mod Chosen
pub mod Shown
