-- In the order of reading: orders of entries, what is filled up to a deadline, the pairs that were tried, the ends of all entries,
-- what a pass over the deadlines has found, and what is judged of a sheet.
pub mod Orders
pub mod Levels
pub mod Tried
pub mod Ends
pub mod Passes
pub mod Judged
