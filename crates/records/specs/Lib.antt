-- In the order of reading: numbers, some of them worked out, records, and what a call of a reader does.
pub mod Numbers
pub mod Figures
pub mod Records
pub mod Reading
