-- In the order of reading: what one rule does to a board, sweeps, runs of calls, what every run keeps, and some small boards.
pub mod Applying
pub mod Sweeping
pub mod Runs
pub mod Promise
pub mod Figures
