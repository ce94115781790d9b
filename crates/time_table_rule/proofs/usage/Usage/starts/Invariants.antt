-- The starts before a place stand.
use Rattle.std.proofs.Common.{◌≡◌, ℕ, ◌<◌, length, get_or, Some}
use Rattle.model.specs.Sheets.{rows_max}
use Rattle.timetable.specs.Meaning.{meaning_T}
use Rattle.sheet.specs.Listed.{meant}
use Rattle.time_table_rule.proofs.usage.Usage.starts.Given as goal

abbrev pub invariant-loop-place : goal.invariant-loop-place
invariant-loop-place l = (length l.starts ≡ rows_max) × ((k : ℕ) → k < l.place → meaning_T.earliest (meant l.self.sheet) k ≡ Some (get_or l.starts k 0))
