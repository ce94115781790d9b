-- One ramp more, at the next place.
use Rattle.std.proofs.Common.{arith}
use Rattle.shift_rule.proofs.Climbing.{climbed_more, low_more}
use Rattle.shift_rule.proofs.ramps.Ramps.push.Goals as goal

pub invariant_of-self : goal.invariant_of-self
invariant_of-self c =
    let r = c.args.self.now in
    let low = low_more r.slopes r.top r.low c.requires.room c.args.ramp.offset c.args.ramp.length c.args.ramp.demand c.requires.small in
    record { low = rw (c.from.ensures, c.from-2.ensures) low }

pub returns : goal.returns
returns c =
    let r = c.args.self.now in
    record {
      count = omega arith;
      climbs = climbed_more r.slopes r.top r.low c.requires.room c.args.ramp.offset c.args.ramp.length c.args.ramp.demand;
    }
