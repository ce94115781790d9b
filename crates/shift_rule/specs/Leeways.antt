-- How far entries can be moved, and how much slack moves none of them.
use Rattle.std.specs.Prelude.{◌≡◌, ℕ, ◌+◌, ◌-◌, ◌*◌, ◌<◌, ◌≤◌, List, length, slice_index, slice_index_or}
use Rattle.model.specs.declared.entries.Entry.{Entry}
use Rattle.model.specs.Sheets.{Sheet, count, entry, rows_max}
use Rattle.model.specs.Energy.{right_part}
use Rattle.shift_rule.specs.declared.movers.Reach.{Reach}

-- The leeway of an entry at t2: its demand in the slots that it runs after t2 where it ends as late as it can, beyond
-- those where it starts as early as it can.
abbrev pub leeway : Entry → ℕ → ℕ
leeway e t2 = e.demand * ((e.duration - right_part e t2) - ((e.release + e.duration) - t2))

-- No entry has more leeway at t2.
abbrev pub Enough : Sheet → ℕ → ℕ → Type 0
Enough s t2 reach = (k : ℕ) → k < count s → leeway (entry s k) t2 ≤ reach

-- An entry that has a slot to spare.
abbrev pub Spares : Entry → Type 0
Spares e = e.release + e.duration < e.deadline

-- A place is among those listed.
abbrev pub IsListed : List ℕ → ℕ → Type 0
IsListed places k = ∥ ((q : ℕ) × (q < length places) × (slice_index places q ≡ k)) ∥₁

-- Among the places listed is that of every entry that has a slot to spare.
pub record ListsMovers (s : Sheet) (places : List ℕ) : Type 0 where
  pub inside : (q : ℕ) → q < length places → slice_index places q < count s
  pub each : (k : ℕ) → k < count s → Spares (entry s k) → IsListed places k

-- What is enough at each end point of an entry.
pub record EnoughAround (s : Sheet) (e : Entry) (r : Reach) : Type 0 where
  pub deadline : Enough s e.deadline r.deadline
  pub early_end : Enough s (e.release + e.duration) r.early_end
  pub late_start : Enough s (e.deadline - e.duration) r.late_start

-- What stands past the last reach.
abbrev pub no_reach : Reach
no_reach = record { deadline = 0; early_end = 0; late_start = 0 }

-- How much slack moves no entry, around each entry and anywhere.
pub record Known (s : Sheet) (reaches : List Reach) (most : ℕ) : Type 0 where
  pub places : length reaches ≡ rows_max
  pub around : (k : ℕ) → k < count s → EnoughAround s (entry s k) (slice_index_or reaches k no_reach)
  pub anywhere : (t2 : ℕ) → Enough s t2 most
