-- Read in this order: Calls, what a call is; Transcripts, the calls of one caller; Histories, the calls of all callers in one order;
-- Laws, what holds of every log.
pub mod Calls
pub mod Transcripts
pub mod Histories
pub mod Laws
