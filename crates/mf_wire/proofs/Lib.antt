pub mod Bracketed
pub mod FirstLine
pub mod Objects
pub mod Printed
pub mod AcceptedSize
pub mod Rows
pub mod Identifiers
