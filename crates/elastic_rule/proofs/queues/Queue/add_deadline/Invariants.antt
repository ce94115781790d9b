-- The deadline is added for the entries before k.
use Rattle.sheet.specs.Listed.{meant}
use Rattle.elastic_rule.specs.Passes.{Adding}
use Rattle.elastic_rule.proofs.queues.Queue.add_deadline.Given as goal

abbrev pub invariant-loop-k : goal.invariant-loop-k
invariant-loop-k l = Adding (meant l.self.sheet) l.j l.k l.highest l.levels l.initial.found l.found
