pub mod Escapes
pub mod Spelling
pub mod Patterns
pub mod Messages
pub mod Passing
pub mod Reading
pub mod Words
