-- In the order of reading: the start that one interval forces on one entry, how far entries can be moved, the energies of
-- intervals that share an end, what a pass over candidates has found, the points that it has gone through, and how it goes on.
pub mod Forced
pub mod Leeways
pub mod Ramps
pub mod Found
pub mod Points
pub mod Passes
