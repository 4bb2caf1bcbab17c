-- All are for private clauses: what the public function gives is defined in mf_tree's Faults.
pub mod KeyValues
pub mod Seen
pub mod Annotations
