-- Read in this order: Slots, what an entry is; Flights, the entries of editions and what changes them; Sums, totals. Sheets is for
-- private clauses.
pub mod Slots
pub mod Flights
pub mod Sums
pub mod Sheets
