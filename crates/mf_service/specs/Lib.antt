-- Read in this order: Summaries, the line that sums connections up; Services, what serving them does.
pub mod Summaries
pub mod Services
