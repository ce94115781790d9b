-- In the order of reading: E as a definition that computes, and the theorems.
pub mod Meaning
pub mod Theorems
pub mod Pushes
