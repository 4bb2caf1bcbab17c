-- Read in this order: Parts, what becomes of a piece of a pattern; Messages, what becomes of a message; Answers, what a log at
-- an edition answers to a request for a sentence; Laws.
pub mod Parts
pub mod Messages
pub mod Answers
pub mod Laws
