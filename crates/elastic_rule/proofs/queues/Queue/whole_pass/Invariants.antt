-- The deadlines before j are added.
use Rattle.sheet.specs.Listed.{meant}
use Rattle.elastic_rule.specs.Passes.{Passed}
use Rattle.elastic_rule.proofs.queues.Queue.whole_pass.Given as goal

abbrev pub invariant-loop-j : goal.invariant-loop-j
invariant-loop-j l = Passed (meant l.self.sheet) l.j l.found
