use Rattle.shift.proofs.RuleS.{s_keeps_the_law}
use Rattle.shift.proofs.s_keeps_the_law.Goals as goal

pub returns : goal.returns
returns c = s_keeps_the_law
