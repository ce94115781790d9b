-- In the order of reading: the lines of a report, the answers to commands, and a text in a buffer.
pub mod Lines
pub mod Replies
pub mod Buffers
