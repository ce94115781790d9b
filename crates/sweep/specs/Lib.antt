pub mod Meant
pub mod Windows
pub mod Shown
pub mod Rounds
