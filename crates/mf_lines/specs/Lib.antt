-- Read in this order: Served, lines answered one after the other; Cut, what was taken of an input; Sessions, what answering an
-- input comes to, by its status; Laws. Waiting and Fronts are for private clauses.
pub mod Served
pub mod Cut
pub mod Sessions
pub mod Laws
pub mod Waiting
pub mod Fronts
