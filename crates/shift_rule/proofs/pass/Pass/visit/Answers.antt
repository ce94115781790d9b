-- What is an interval is a candidate, and where even the top of the ramps leaves enough slack, it moves nothing.
use Rattle.shift_rule.specs.Passes.{sheet_in}
use Rattle.shift_rule.proofs.Passed.{passed_by}
use Rattle.shift_rule.proofs.pass.Pass.visit.Goals as goal

pub returns-else-is_near-clause-accounted : goal.returns-else-is_near-clause-accounted
returns-else-is_near-clause-accounted c =
    let p = c.args.self.now in
    let r = c.args.ramps.now in
    passed_by (sheet_in p) p.subject.now.movers.sheet.sound p.found p.right r.slopes r.top r.low c.args.reach c.args.t1 c.args.t2
    c.requires (rw c.if-is_near.false at c.is_near.ensures)
