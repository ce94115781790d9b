-- The ramps of the entries so far.
use Rattle.std.proofs.Common.{◌≤◌}
use Rattle.sheet.specs.Listed.{meant}
use Rattle.shift_rule.proofs.Climbing.{Added}
use Rattle.shift_rule.proofs.ramps.Ramps.of.Given as goal

abbrev pub invariant-loop-e : goal.invariant-loop-e
invariant-loop-e g l = (l.ramps.slopes.count ≤ l.e-index) × Added (meant l.sheet) (g.S.Side.has l.side) l.e-index l.ramps.slopes
