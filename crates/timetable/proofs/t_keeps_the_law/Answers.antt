use Rattle.timetable.proofs.RuleT.{t_keeps_the_law}
use Rattle.timetable.proofs.t_keeps_the_law.Goals as goal

pub returns : goal.returns
returns c = t_keeps_the_law
