-- One entry more.
use Rattle.std.proofs.Common.{arith}
use Rattle.sheet.specs.Listed.{meant}
use Rattle.shift_rule.specs.Ramps.{rise}
use Rattle.shift_rule.proofs.Climbing.{added_none, added_more}
use Rattle.shift_rule.proofs.ramps.Ramps.of.Goals as goal

pub loop-e-init : goal.loop-e-init
loop-e-init g c =
    (omega (arith, c.flat-ramps.ensures), added_none (meant c.args.sheet) (g.S.Side.has c.args.side.now) c.flat-ramps.result.slopes c.flat-ramps.ensures)

pub loop-e-preserved : goal.loop-e-preserved
loop-e-preserved g c = (
  omega (arith, c.push.ensures.count, c.loop-e.invariant.0),
  added_more (meant c.args.sheet) (g.S.Side.has c.args.side.now) c.loop-e.e-index c.loop-e.ramps.slopes c.push.new.self.slopes (rise c.ramp.result)
      c.loop-e.invariant.1 c.ramp.ensures.energies c.push.ensures.climbs,
)
