-- A slot as evidence, the interval that it tells, and what is judged of a sheet.
use Rattle.std.specs.Prelude.{◌≡◌, ℕ, ◌+◌, ◌<◌, List, Some, None, Ok, Err, Option, Result, slice_index}
use Rattle.std.proofs.Math.Decide.{dec_lt}
use Rattle.model.specs.declared.intervals.Interval.{Interval}
use Rattle.model.specs.Sheets.{Sheet, count, horizon}
use Rattle.model.specs.Rules.{Named}
use Rattle.model.specs.TimeTable.{Crowded}
use Rattle.timetable.specs.Meaning.{meaning_T}
use Rattle.rules.specs.declared.slots.Slot.{Slot}

-- A slot tells the interval from it to the next.
abbrev pub told : Slot → Interval
told s = record { t1 = s.at; t2 = s.at + 1 }

-- The slot t, where it is one of the horizon.
abbrev pub slot_at : (t : ℕ) → Dec (t < horizon) → Option Slot
slot_at t (yes l) = Some (record { at = t; inside = l })
slot_at t (no h) = None

-- The slot at which an interval starts.
abbrev pub shown : Option Interval → Option Slot
shown (Some i) = slot_at i.t1 (dec_lt i.t1 horizon)
shown None = None

-- What is judged of a sheet: the first crowded slot or, where none is crowded, the earliest start of each entry.
abbrev pub Judged : Sheet → Result (List ℕ) Slot → Type 0
Judged s (Ok starts) = Named (Crowded s) None × ((k : ℕ) → k < count s → meaning_T.earliest s k ≡ Some (slice_index starts k))
Judged s (Err slot) = Named (Crowded s) (Some (told slot))
