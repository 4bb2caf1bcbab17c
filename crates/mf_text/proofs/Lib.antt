pub mod Classes
pub mod Either
pub mod Normal
pub mod Ordered
pub mod Pairs
pub mod Pushed
pub mod SameTexts
pub mod Shared
