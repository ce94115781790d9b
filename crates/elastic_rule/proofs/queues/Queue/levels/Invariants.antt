-- The levels at the places before this one stand.
use Rattle.sheet.specs.Listed.{meant}
use Rattle.elastic_rule.specs.Levels.{Levelled}
use Rattle.elastic_rule.proofs.queues.Queue.levels.Given as goal

abbrev pub invariant-loop-place : goal.invariant-loop-place
invariant-loop-place l = Levelled (meant l.self.sheet) l.t2 l.levels l.place l.release l.inside l.rest
