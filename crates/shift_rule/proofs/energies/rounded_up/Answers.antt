-- The library's quotient rounded up is ours.
use Rattle.std.proofs.Common.{arith}
use Rattle.model.proofs.Ceilings.{rounded_up as same}
use Rattle.shift_rule.proofs.energies.rounded_up.Goals as goal

pub returns : goal.returns
returns c = omega (arith, same c.args.x c.args.c c.requires.0)
