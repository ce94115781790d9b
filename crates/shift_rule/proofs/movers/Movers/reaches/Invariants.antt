-- The reaches around the entries before k stand at their places.
use Rattle.std.proofs.Common.{◌≡◌, ℕ, ◌<◌, length, get_or}
use Rattle.model.specs.Sheets.{entry, rows_max}
use Rattle.sheet.specs.Listed.{meant}
use Rattle.shift_rule.specs.Leeways.{EnoughAround, no_reach}
use Rattle.shift_rule.proofs.movers.Movers.reaches.Given as goal

abbrev pub invariant-loop-place : goal.invariant-loop-place
invariant-loop-place l =
    (length l.reaches ≡ rows_max)
    × ((j : ℕ) → j < l.place → EnoughAround (meant l.self.sheet) (entry (meant l.self.sheet) j) (get_or l.reaches j no_reach))
