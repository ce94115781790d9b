-- In the order of reading: refusals by number, what the calls on a board do, and what a board holds.
pub mod Refusals
pub mod Calls
pub mod Held
