-- The earliest start is the one at its place, and there is none from the count upward.
use Rattle.std.proofs.Common.{rules}
use Rattle.shift.specs.Meaning.{earliest_S}
use Rattle.shift_rule.proofs.shifts.ShiftRule.earliest.Goals as goal

pub returns : goal.returns
unfolding earliest_S
returns g c = search rules
