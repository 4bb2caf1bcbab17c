-- Read in this order: Turns, what a line and its reply do at the desk of one caller; Laws. What a session comes to by its status is
-- `Outcome` of mf_lines, with `Sole` of mf_transcript for what the lines and replies say. Publishing is for private clauses.
pub mod Turns
pub mod Sharing
pub mod Publishing
pub mod Laws
