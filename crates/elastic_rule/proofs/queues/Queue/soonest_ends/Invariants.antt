-- The ends at the places before this one stand.
use Rattle.std.proofs.Common.{◌≡◌, ℕ, ◌+◌, ◌<◌, length, get_or}
use Rattle.model.specs.Sheets.{entry, rows_max}
use Rattle.sheet.specs.Listed.{meant}
use Rattle.elastic_rule.proofs.queues.Queue.soonest_ends.Given as goal

abbrev pub invariant-loop-place : goal.invariant-loop-place
invariant-loop-place l = (length l.ends ≡ rows_max)
    × ((k : ℕ) → k < l.place → get_or l.ends k 0 ≡ (entry (meant l.self.sheet) k).release + (entry (meant l.self.sheet) k).duration)
