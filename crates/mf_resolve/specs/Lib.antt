-- Read Gathering: what a scope is seen as, and what its calls promise. Resolving and Sources serve private clauses.
pub mod Sources
pub mod Settings
pub mod Refusals
pub mod Resolving
pub mod Gathering
