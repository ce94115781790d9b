mod Refused
mod Single
pub mod Determined
pub mod Decided
