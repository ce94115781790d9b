-- In the order of reading: the changes of a row, sums, sheets with their placements and elastic schedules, the limits of rows, energies, what a rule is, and the rules T, E and S.
pub mod Changes
pub mod Total
pub mod Sheets
pub mod Limits
pub mod Energy
pub mod Rules
pub mod TimeTable
pub mod Elastic
pub mod Shift
