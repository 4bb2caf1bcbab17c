-- Read Lint and Laws; Computed is for private clauses.
pub mod Lint
pub mod Laws
pub mod Computed
