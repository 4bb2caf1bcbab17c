-- Read in this order: the lines of an input and their JSON values; what a line asks for, by its fields; the reply lines,
-- whose objects are made of members.
-- Writing is for private clauses.
pub mod Lines
pub mod Reading
pub mod FieldNames
pub mod Fields
pub mod HandlerFields
pub mod RecordSizes
pub mod Requests
pub mod Members
pub mod Parts
pub mod Replies
pub mod Writing
