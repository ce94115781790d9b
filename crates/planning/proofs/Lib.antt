mod Faulted
pub mod TestsEntered
pub mod RowsKept
pub mod PromiseKept
mod OnAnyBoard
pub mod OnePlan
