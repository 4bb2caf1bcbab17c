-- Read Plans, which says what a plan means, and Laws; Computed is for private clauses.
pub mod Plans
pub mod Laws
pub mod Computed
