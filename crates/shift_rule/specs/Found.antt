-- What a pass over candidates has found, and which intervals it has accounted for.
use Rattle.std.specs.Prelude.{◌≡◌, ℕ, ◌+◌, ◌-◌, ◌<◌, ◌≤◌, ◌⊎◌, List, length, Some, None, Option, slice_index}
use Rattle.std.specs.List.{AllByRecursion}
use Rattle.model.specs.declared.intervals.Interval.{Interval}
use Rattle.model.specs.Sheets.{Sheet, count, entry, rows_max}
use Rattle.model.specs.Energy.{IsInterval, EndPoint, NegativeSlack, ForcedEnd, lack, ceiling}
use Rattle.model.specs.Rules.{NoLater}
use Rattle.model.specs.Shift.{NegativeCandidate}
use Rattle.shift.specs.Meaning.{from_start, to_end, made_by}
use Rattle.shift_rule.specs.Leeways.{Enough}
use Rattle.shift_rule.specs.declared.pass.Survey.{Survey}

-- The start of an entry that a pass has found.
abbrev pub start_in : Survey → ℕ → ℕ
start_in v k = slice_index v.starts k

-- A start that is the release of the entry at place k, or is forced by a candidate.
pub record Reached (s : Sheet) (k n : ℕ) : Type 0 where
  pub released : (entry s k).release ≤ n
  pub forced : (n ≡ (entry s k).release) ⊎ ((end : ℕ) × ForcedEnd s k end × (n ≡ end - (entry s k).duration))

-- Whatever was found is true of the sheet.
pub record Right (s : Sheet) (v : Survey) : Type 0 where
  pub negative : (i : Interval) → v.first ≡ Some i → NegativeCandidate s i.t1 i.t2
  pub starts : (k : ℕ) → k < count s → Reached s k (start_in v k)
  pub places : length v.starts ≡ rows_max

-- The interval that was found, if any, comes no later than t1, t2.
abbrev pub LedBy : Option Interval → ℕ → ℕ → Type 0
LedBy (Some i) t1 t2 = NoLater i t1 t2
LedBy None t1 t2 = ⊥

-- An interval is accounted for: if its slack is negative, no later one was found; else no start that it forces is above the one found.
pub record Accounted (s : Sheet) (v : Survey) (t1 t2 : ℕ) : Type 0 where
  pub negative : IsInterval t1 t2 → NegativeSlack s t1 t2 → LedBy v.first t1 t2
  pub forced : IsInterval t1 t2 → ¬ NegativeSlack s t1 t2 → (k : ℕ) → k < count s → t2 < (entry s k).deadline →
      0 < lack s k t1 t2 → (t2 + ceiling (lack s k t1 t2) (entry s k).demand) - (entry s k).duration ≤ start_in v k

-- What v has found, w has: an interval no later, and starts of the first n entries no smaller.
pub record Grows (n : ℕ) (v w : Survey) : Type 0 where
  pub first : (t1 t2 : ℕ) → LedBy v.first t1 t2 → LedBy w.first t1 t2
  pub starts : (k : ℕ) → k < n → start_in v k ≤ start_in w k

-- All of a list are accounted for.
abbrev pub AllAccounted : Sheet → Survey → List Interval → Type 0
AllAccounted s v = AllByRecursion (λ i. Accounted s v i.t1 i.t2)

-- All intervals from t1 to an end point of an entry, or to its partner there, are accounted for.
abbrev pub AccountedFrom : Sheet → Survey → ℕ → Type 0
AccountedFrom s v t1 = (j : ℕ) → j < count s → AllAccounted s v (from_start t1 (entry s j))

-- All intervals to t2 from its partner in the window of an entry are accounted for.
abbrev pub AccountedTo : Sheet → Survey → ℕ → Type 0
AccountedTo s v t2 = (j : ℕ) → j < count s → Accounted s v (to_end t2 (entry s j)).t1 t2

-- All that the points of the entry at place i make with the others is accounted for.
abbrev pub AccountedAround : Sheet → Survey → ℕ → Type 0
AccountedAround s v i = (j : ℕ) → j < count s → AllAccounted s v (made_by (entry s i) (entry s j))

-- An end point, and slack that moves no entry in an interval that closes there.
pub record TheEnd (s : Sheet) (t2 reach : ℕ) : Type 0 where
  pub enough : Enough s t2 reach
  pub point : EndPoint s t2
