-- In the order of reading: the words of a line, the command that they say, and what the code that takes words does.
pub mod Lines
pub mod Commands
pub mod Taking
