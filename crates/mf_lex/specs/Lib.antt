-- Read in this order: Cursor and Readers, what each reader does; Laws. Classes and Computed are for private clauses, of
-- this crate and of mf_parse.
pub mod Cursor
pub mod Readers
pub mod Laws
pub mod Classes
pub mod Computed
