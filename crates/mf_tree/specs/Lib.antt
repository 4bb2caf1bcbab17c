-- Read in this order: Grammar, which node a text spells; Names and Nodes, which values are nodes; Equality, Kinds and
-- Faults, what makes a message invalid; Compiled, which joins them; Canonical, the text that is printed; Laws.
pub mod Grammar
pub mod Names
pub mod Nodes
pub mod Equality
pub mod Kinds
pub mod Faults
pub mod Compiled
pub mod Canonical
pub mod Laws
