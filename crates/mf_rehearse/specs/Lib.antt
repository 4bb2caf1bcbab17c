-- Read in this order: Scripts, whose each line of an input is; Prints, what is written at the end; Rehearsals, what it says, by its
-- status; Laws, with Played, what is known of callers that have left. Copies, Playing and Leaving are for private clauses.
pub mod Scripts
pub mod Prints
pub mod Rehearsals
pub mod Played
pub mod Laws
pub mod Copies
pub mod Playing
pub mod Leaving
