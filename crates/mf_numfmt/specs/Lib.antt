-- Read in this order: the sizes of a layout, the sign, where digits are separated, the text. Spans is for private clauses.
pub mod Sizes
pub mod Signs
pub mod Groups
pub mod NumberText
pub mod Spans
