-- Read in this order: Asked, what a line asks for; Replies, the replies at an edition of a log; Served, the messages that lines
-- were answered from; Steps, what one line and its reply say; Transcripts, those of a caller; Sole, those of the one caller of a
-- desk; Lines, what lines and replies mean in a history; Laws.
pub mod Asked
pub mod Replies
pub mod Served
pub mod Steps
pub mod Transcripts
pub mod Sole
pub mod Lines
pub mod Laws
