-- Read in this order: Tallies, how sessions ended; Serving, what is promised of all connections.
pub mod Tallies
pub mod Serving
