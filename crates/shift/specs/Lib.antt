-- In the order of reading: S as a computation, and the theorems about it.
pub mod Meaning
pub mod Theorems
