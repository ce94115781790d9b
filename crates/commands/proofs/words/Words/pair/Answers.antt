use Rattle.commands.proofs.Fronts.{pair_1, pair_2, pair_whole}
use Rattle.commands.proofs.words.Words.pair.Goals as goal

pub returns-in_err-profile : goal.returns-in_err-profile
returns-in_err-profile c = rw c.from_residual.ensures (pair_1 _ c.in_err-profile.ensures)

pub returns-in_err-bearer : goal.returns-in_err-bearer
returns-in_err-bearer c =
    rw c.from_residual-in_err-bearer.ensures (pair_2 _ _ _ c.in_ok-profile.ensures c.in_err-bearer.ensures)

pub returns : goal.returns
returns c = pair_whole _ _ _ _ _ c.in_ok-profile.ensures c.in_ok-bearer.ensures
