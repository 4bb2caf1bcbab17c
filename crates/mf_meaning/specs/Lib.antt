-- Read in this order: Numbers, the values that the relations of decimals name; OptionValues and Options, what a text sets an
-- option to; Kept; Functions, what a call gives; Shown; Ranks, with the meaning of the built-in functions. Fitting shows that
-- what an option is set to is in its range.
pub mod Numbers
pub mod OptionValues
pub mod Options
pub mod Fitting
pub mod Kept
pub mod Shown
pub mod Functions
pub mod Ranks
pub mod Handlers
pub mod Laws
