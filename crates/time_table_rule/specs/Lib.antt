-- In the order of reading: lines of usage, what a slot tells and what is judged of a sheet, and the room that was seen.
pub mod Lines
pub mod Shown
pub mod Rooms
