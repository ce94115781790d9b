mod Arranging
mod Ordering
mod Positions
mod Tried
