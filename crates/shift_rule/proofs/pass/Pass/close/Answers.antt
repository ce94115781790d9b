-- A point that is marked is accounted for, and one that is gone through is marked.
use Rattle.shift_rule.specs.Found.{AccountedTo}
use Rattle.shift_rule.specs.Passes.{sheet_in}
use Rattle.shift_rule.proofs.Onward.{onto}
use Rattle.shift_rule.proofs.Gone.{was_closed, gone_closed}
use Rattle.shift_rule.proofs.pass.Pass.close.Goals as goal

pub invariant_of-self : goal.invariant_of-self
invariant_of-self c =
    let p = c.args.self.now in
    let q = c.along.new.self in
    let t = c.args.t2 in
    let here = onto p q (λ s. AccountedTo s q.found t) c.along.ensures.onward (λ j l. (c.along.ensures.accounted j l).0) in
    record { right = q.right; gone = gone_closed (sheet_in q) q.begun q.closed q.found q.gone c.add.new.self t c.add.ensures here }

pub returns-else-not-has-clause-accounted : goal.returns-else-not-has-clause-accounted
returns-else-not-has-clause-accounted c =
    let p = c.args.self.now in
    was_closed (sheet_in p) p.begun p.closed p.found p.gone c.args.t2 (cc)
