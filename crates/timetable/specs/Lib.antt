-- In the order of reading: T as a computation, and the theorem about it.
pub mod Meaning
pub mod Theorems
