-- No mark stands at first.
use Rattle.std.proofs.Common.{false}
use Rattle.shift_rule.proofs.Blank.{same_everywhere}
use Rattle.shift_rule.proofs.slots.Slots.none.Goals as goal

pub returns : goal.returns
returns c = same_everywhere false 4033
