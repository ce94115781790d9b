-- The ramp of an entry has its energies.
use Rattle.shift_rule.proofs.Climbing.{rise_from}
use Rattle.shift_rule.proofs.sides.StartSide.ramp.Goals as goal

pub returns-clause-energies : goal.returns-clause-energies
returns-clause-energies c t1 t2 has l = rw (c.saturating_sub.ensures, c.left_part.ensures, ← has) (rise_from c.args.e t1 t2 c.requires l)
