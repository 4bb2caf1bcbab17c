-- What the standard says: Grammar, then Operands and Choice. What computes it: Computed, which the laws of Laws tie to it.
-- Cuts is for private clauses.
pub mod Grammar
pub mod Keywords
pub mod Operands
pub mod Choice
pub mod Refusals
pub mod Computed
pub mod Laws
pub mod Cuts
