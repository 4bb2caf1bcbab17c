pub mod Feeds
pub mod Together
pub mod Pieces
pub mod Copying
pub mod Sent
pub mod Crossing
pub mod Departing
pub mod Scripted
