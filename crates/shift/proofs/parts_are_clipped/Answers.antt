use Rattle.shift.proofs.Clipped.{parts_are_clipped}
use Rattle.shift.proofs.parts_are_clipped.Goals as goal

pub returns : goal.returns
returns c = parts_are_clipped
