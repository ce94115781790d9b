-- What is proved of S.
use Rattle.std.specs.Prelude.{◌≡◌, ℕ, ◌-◌, ◌*◌, ◌≤◌, ◌↔◌, pos, ◌-ℤ◌, ◌<ℤ◌, Some, None}
use Rattle.std.specs.Int.{int_max}
use Rattle.model.specs.declared.entries.Entry.{Entry}
use Rattle.model.specs.declared.intervals.Interval.{Interval}
use Rattle.model.specs.Sheets.{Sheet, Sound}
use Rattle.model.specs.Energy.{left_part, right_part, energy, ceiling, NegativeSlack, NegativeSomewhere, LeastSlack}
use Rattle.model.specs.Rules.{Meaning, Lawful}
use Rattle.model.specs.Shift.{NegativeCandidate, IsS}
use Rattle.shift.specs.Meaning.{meaning_S}

-- The computation is S, and whatever is S keeps the law of rules.
abbrev pub SKeepsTheLaw : Type 0
SKeepsTheLaw = IsS meaning_S × ((rule : Meaning) → IsS rule → Lawful rule)

-- S has evidence if and only if some interval, candidate or not, has negative slack; and none if and only if none has.
abbrev pub SIsExact : Type 0
SIsExact = (rule : Meaning) → IsS rule → (s : Sheet) → Sound s →
    (((i : Interval) × (rule.evidence s ≡ Some i)) ↔ NegativeSomewhere s) × ((rule.evidence s ≡ None) ↔ (¬ NegativeSomewhere s))

-- Where some interval has negative slack, the least slack of all intervals is at a candidate.
abbrev pub LeastSlackIsAtACandidate : Type 0
LeastSlackIsAtACandidate = (s : Sheet) → Sound s → NegativeSomewhere s →
    (t1 t2 : ℕ) × NegativeCandidate s t1 t2 × LeastSlack s t1 t2

-- Over the integers, the left part at t1 is p - max(0, t1 - r), the right part at t2 is p - max(0, d - t2), both 0 where they would
-- fall below it; and slack is negative where the room minus the energies is below 0.
pub record PartsAreClipped : Type 0 where
  pub left : (e : Entry) (t1 : ℕ) →
      pos (left_part e t1) ≡ int_max (pos 0) (pos e.duration -ℤ int_max (pos 0) (pos t1 -ℤ pos e.release))
  pub right : (e : Entry) (t2 : ℕ) →
      pos (right_part e t2) ≡ int_max (pos 0) (pos e.duration -ℤ int_max (pos 0) (pos e.deadline -ℤ pos t2))
  pub slack : (s : Sheet) (t1 t2 : ℕ) →
      NegativeSlack s t1 t2 ↔ ((pos (s.capacity * (t2 - t1)) -ℤ pos (energy s t1 t2)) <ℤ pos 0)

-- The quotient rounded up is the least number of slots in which c a slot makes x.
abbrev pub QuotientsRoundUp : Type 0
QuotientsRoundUp = (x c slots : ℕ) → 1 ≤ c → (ceiling x c ≤ slots) ↔ (x ≤ c * slots)
