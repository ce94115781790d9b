-- In the order of reading: the sheet of some entries, and what a list holds.
pub mod Entries
pub mod Listed
