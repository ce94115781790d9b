pub mod Slots
pub mod Energies
pub mod Clipped
pub mod LeastSlack
pub mod Spent
pub mod Listed
pub mod RuleS
pub mod ByPairs
