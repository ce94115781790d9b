-- What a rule is, and its law.
use Rattle.std.specs.Prelude.{◌≡◌, ℕ, ◌<◌, ◌≤◌, ◌⊎◌, Some, None, Option}
use Rattle.model.specs.declared.intervals.Interval.{Interval}
use Rattle.model.specs.Sheets.{Sheet, Sound, Placement, NoPlacement, count, horizon}
use Rattle.model.specs.Energy.{IsInterval}

-- What a rule means: its letter, the interval that its evidence tells, if it has any, and the earliest start of the entry at a place.
pub record Meaning : Type 0 where
  pub letter : ℕ
  pub evidence : Sheet → Option Interval
  pub earliest : Sheet → ℕ → Option ℕ

-- What is proper to every rule: evidence tells an interval; an entry that the sheet has gets a number from 0 to the horizon, and no other gets one.
pub record Proper (rule : Meaning) : Type 0 where
  pub tells : (s : Sheet) → Sound s → (i : Interval) → rule.evidence s ≡ Some i → IsInterval i.t1 i.t2
  pub present : (s : Sheet) → Sound s → (k : ℕ) → k < count s → (n : ℕ) × (rule.earliest s k ≡ Some n) × (n ≤ horizon)
  pub absent : (s : Sheet) → Sound s → (k : ℕ) → count s ≤ k → rule.earliest s k ≡ None

-- The first half of the law: evidence only for a sheet without a placement.
abbrev pub Refutes : Meaning → Type 0
Refutes rule = (s : Sheet) → Sound s → (i : Interval) → rule.evidence s ≡ Some i → NoPlacement s

-- The second half: where there is no evidence, no placement starts an entry before the earliest start.
abbrev pub NeverBefore : Meaning → Type 0
NeverBefore rule = (s : Sheet) → Sound s → rule.evidence s ≡ None → (start : ℕ → ℕ) → Placement s start →
    (k n : ℕ) → k < count s → rule.earliest s k ≡ Some n → n ≤ start k

-- A meaning that is proper and keeps both halves of the law.
pub record Lawful (rule : Meaning) : Type 0 where
  pub proper : Proper rule
  pub refutes : Refutes rule
  pub never_before : NeverBefore rule

-- The interval i comes no later than t1, t2 in the order by start and then by end.
abbrev pub NoLater : Interval → ℕ → ℕ → Type 0
NoLater i t1 t2 = (i.t1 < t1) ⊎ ((i.t1 ≡ t1) × (i.t2 ≤ t2))

-- Which interval is named: of the intervals with P, the first by start and then by end; or none has P.
abbrev pub Named : (ℕ → ℕ → Type 0) → Option Interval → Type 0
Named P (Some i) = P i.t1 i.t2 × ((t1 t2 : ℕ) → P t1 t2 → NoLater i t1 t2)
Named P None = (t1 t2 : ℕ) → ¬ P t1 t2
