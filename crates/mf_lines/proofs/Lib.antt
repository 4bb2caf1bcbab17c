pub mod Feeds
pub mod Cuts
pub mod Once
pub mod Answering
pub mod Behind
pub mod Reading
pub mod Following
