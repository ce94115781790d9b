-- The sum is the energies on the ramps so far.
use Rattle.std.proofs.Common.{◌≡◌, ◌*◌, ◌≤◌}
use Rattle.model.specs.Total.{total}
use Rattle.shift_rule.specs.Ramps.{climb}
use Rattle.shift_rule.proofs.ramps.Ramps.climbed.Given as goal

abbrev pub invariant-loop-k : goal.invariant-loop-k
invariant-loop-k l = (l.sum ≡ total l.k (climb l.slopes l.far)) × (l.sum ≤ 16511040 * l.k)
