pub mod Counts
pub mod Crossing
pub mod Gathering
pub mod Pieces
pub mod Sending
pub mod Told
