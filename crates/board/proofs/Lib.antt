mod Ranges
mod Found
pub mod Judging
pub mod Kept
pub mod Sound
