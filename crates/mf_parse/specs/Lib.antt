-- Read Parsing, what the parser promises; Computed is for private clauses.
pub mod Parsing
pub mod Computed
