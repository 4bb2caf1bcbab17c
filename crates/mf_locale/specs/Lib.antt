-- Read in this order: what a tag is and its chain; what a record's fields hold (the grammar of its rules stands in
-- mf_plural); the record of a JSON value, and the root record.
pub mod Tag
pub mod Chain
pub mod FieldNames
pub mod RecordFields
pub mod RecordReading
pub mod Records
pub mod Refusals
