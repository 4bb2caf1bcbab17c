-- What a line asks for is `line_request` of mf_wire. Sentences is for private clauses.
pub mod Sentences
