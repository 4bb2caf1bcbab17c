-- Read in this order: Amount; Grammar for number literals and the decimal that one stands for; Whole, Text and Rounding; the
-- laws. Parts, Significand and Dropping are for private clauses.
pub mod Amount
pub mod Grammar
pub mod Whole
pub mod Text
pub mod Rounding
pub mod Laws
pub mod Parts
pub mod Significand
pub mod Dropping
