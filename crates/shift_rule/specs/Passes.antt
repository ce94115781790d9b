-- How a pass goes on.
use Rattle.std.specs.Prelude.{◌≡◌, ℕ, ◌-◌, ◌<◌}
use Rattle.model.specs.Sheets.{Sheet, count}
use Rattle.model.specs.Energy.{IsInterval, Candidate, energy}
use Rattle.sheet.specs.Listed.{meant}
use Rattle.shift_rule.specs.declared.pass.Pass.{Pass}
use Rattle.shift_rule.specs.declared.ramps.Slopes.{Slopes}
use Rattle.shift_rule.specs.Leeways.{Enough}
use Rattle.shift_rule.specs.Ramps.{climbed}
use Rattle.shift_rule.specs.Found.{Grows}

-- The sheet of what a pass is over.
abbrev pub sheet_in : Pass → Sheet
sheet_in p = meant p.subject.now.movers.sheet

-- What is told of t1 and t2 before they are accounted for: how much slack moves no entry, and, if they are an interval, its energies
-- by ramps, and that it is a candidate.
pub record Told (s : Sheet) (r : Slopes) (reach t1 t2 : ℕ) : Type 0 where
  pub enough : Enough s t2 reach
  pub energies : t1 < t2 → climbed r (t2 - t1) ≡ energy s t1 t2
  pub candidate : IsInterval t1 t2 → Candidate s t1 t2

-- A pass went from p to q: it is over the same sheet, and what it had found, it still has.
pub record Onward (p q : Pass) : Type 0 where
  pub same : sheet_in q ≡ sheet_in p
  pub grows : Grows (count (sheet_in p)) p.found q.found
