-- Read Choosing first, what `choose` promises and when a variant can be chosen; the chosen variant itself and the errors are
-- mf_value's, in Selection; then Laws. Ranks and Stepping serve private clauses.
pub mod Choosing
pub mod Laws
pub mod Ranks
pub mod Stepping
