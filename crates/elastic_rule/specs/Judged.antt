-- What is judged of a sheet.
use Rattle.std.specs.Prelude.{◌≡◌, ℕ, ◌<◌, List, Some, None, Ok, Err, Result, slice_index}
use Rattle.model.specs.declared.intervals.Interval.{Interval}
use Rattle.model.specs.Sheets.{Sheet, count}
use Rattle.model.specs.Energy.{Overfull}
use Rattle.model.specs.Rules.{Named}
use Rattle.elastic.specs.Meaning.{meaning_E}

-- The first overfull interval or, where none is overfull, the earliest start of each entry.
abbrev pub Judged : Sheet → Result (List ℕ) Interval → Type 0
Judged s (Ok starts) = Named (Overfull s) None × ((k : ℕ) → k < count s → meaning_E.earliest s k ≡ Some (slice_index starts k))
Judged s (Err i) = Named (Overfull s) (Some i)
