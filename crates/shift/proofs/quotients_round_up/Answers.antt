use Rattle.shift.proofs.Clipped.{quotients_round_up}
use Rattle.shift.proofs.quotients_round_up.Goals as goal

pub returns : goal.returns
returns c = quotients_round_up
