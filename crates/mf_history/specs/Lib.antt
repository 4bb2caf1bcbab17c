-- Read in this order: Records, when a log and transcripts make a legal history; Verdicts, the first line that doesn't fit. The others are
-- for private clauses.
pub mod Records
pub mod Verdicts
pub mod Asking
pub mod Callers
pub mod Forgone
pub mod Numbers
pub mod Places
pub mod Served
pub mod Walks
