-- In the order of reading: the causes of faults by number and layer, what load does, and that it has one outcome.
pub mod Faults
pub mod Loads
pub mod Outcomes
