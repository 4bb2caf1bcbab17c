-- Read Rendering: what formatting a plan promises. Showing is for private clauses: how the parts of a pattern grow.
pub mod Rendering
pub mod Showing
