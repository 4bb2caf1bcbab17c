-- Read Desks, which says what the calls of the desk of one caller do; Kept is for private clauses.
pub mod Desks
pub mod Kept
pub mod Stores
pub mod Passes
pub mod Held
pub mod Codes
