pub mod First
pub mod Listed
pub mod Seen
pub mod SeenKeys
pub mod Texts
pub mod Walk
