use Rattle.shift.proofs.RuleS.{s_is_exact}
use Rattle.shift.proofs.s_is_exact.Goals as goal

pub returns : goal.returns
returns c = s_is_exact
