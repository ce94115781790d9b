-- No entry listed so far has more leeway.
use Rattle.std.proofs.Common.{ℕ, ◌<◌, ◌≤◌, get_or}
use Rattle.model.specs.Sheets.{entry}
use Rattle.sheet.specs.Listed.{meant}
use Rattle.shift_rule.specs.Leeways.{leeway}
use Rattle.shift_rule.proofs.movers.Movers.reach_at.Given as goal

abbrev pub invariant-loop-place : goal.invariant-loop-place
invariant-loop-place l = (p : ℕ) → p < l.place-index → leeway (entry (meant l.self.sheet) (get_or l.place-items p 0)) l.t2 ≤ l.most
