-- Read in this order: Scripts, the input of a run; Summaries, what its replies come to; Mills, what a run does by its status. Tallies
-- is for private clauses.
pub mod Scripts
pub mod Summaries
pub mod Mills
pub mod Tallies
