-- Nothing climbs where there is no ramp.
use Rattle.std.proofs.Common.{ℕ, List, replicate, refl}
use Rattle.shift_rule.proofs.Blank.{same_everywhere}
use Rattle.shift_rule.proofs.Climbing.{low_none}
use Rattle.shift_rule.proofs.ramps.Ramps.flat.Goals as goal

zeros : List ℕ
zeros = replicate 64 0

pub invariant_of-result : goal.invariant_of-result
unfolding zeros
invariant_of-result c =
    record { low = low_none (record { count = 0; offsets = zeros; lengths = zeros; demands = zeros }) refl (refl, refl, refl) (same_everywhere 0 64) }
