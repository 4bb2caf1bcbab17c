-- Read Meaning first, what a set of functions is; then Values and Ranges, the facts of a value and of what a number keeps;
-- NumberOptions and BuiltIns, the options and functions by their names.
pub mod Ranges
pub mod Values
pub mod Meaning
pub mod Wholes
pub mod NumberOptions
pub mod BuiltIns
pub mod Entries
pub mod Index
pub mod Traces
pub mod ErrorLists
pub mod Selection
