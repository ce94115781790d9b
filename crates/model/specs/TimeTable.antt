-- T, the time table rule.
use Rattle.std.specs.Prelude.{◌≡◌, ℕ, ◌+◌, ◌-◌, ◌<◌, ◌≤◌, cond, ◌&&◌, ◌⊎◌, Some, None, ◌==◌, nat_le, nat_lt}
use Rattle.model.specs.declared.entries.Entry.{Entry}
use Rattle.model.specs.Total.{total}
use Rattle.model.specs.Sheets.{Sheet, Sound, count, entry, horizon}
use Rattle.model.specs.Rules.{Meaning, Named}

-- The channels that an entry must use in slot t: its demand in its fixed part, which goes from d - p to r + p - 1, and else 0.
abbrev pub fixed_at : ℕ → Entry → ℕ
fixed_at t e = cond (nat_le (e.deadline - e.duration) t && nat_lt t (e.release + e.duration)) e.demand 0

-- The usage of a slot: what the fixed parts of all entries use in it.
abbrev pub usage : Sheet → ℕ → ℕ
usage s t = total (count s) (λ k. fixed_at t (entry s k))

-- The usage of a slot without the fixed part of the entry at place k.
abbrev pub usage_of_others : Sheet → ℕ → ℕ → ℕ
usage_of_others s k t = total (count s) (λ j. cond (j == k) 0 (fixed_at t (entry s j)))

-- The interval is one slot, whose usage is above the capacity.
pub record Crowded (s : Sheet) (t1 t2 : ℕ) : Type 0 where
  pub inside : t1 < horizon
  pub one : t2 ≡ t1 + 1
  pub above : s.capacity < usage s t1

-- The entry at place k has room from the slot n on: beside the fixed parts of the others it fits in each slot of n to n + p - 1.
abbrev pub RoomAt : Sheet → ℕ → ℕ → Type 0
RoomAt s k n = (t : ℕ) → n ≤ t → t < n + (entry s k).duration → usage_of_others s k t + (entry s k).demand ≤ s.capacity

-- The smallest start from r to d - p that has room.
pub record FirstRoom (s : Sheet) (k n : ℕ) : Type 0 where
  pub released : (entry s k).release ≤ n
  pub in_time : n ≤ (entry s k).deadline - (entry s k).duration
  pub room : RoomAt s k n
  pub smallest : (m : ℕ) → (entry s k).release ≤ m → m < n → ¬ RoomAt s k m

-- No start from r to d - p has room, and then the earliest start is d - p + 1.
pub record NoRoom (s : Sheet) (k n : ℕ) : Type 0 where
  pub past : n ≡ (entry s k).deadline - (entry s k).duration + 1
  pub nowhere : (m : ℕ) → (entry s k).release ≤ m → m ≤ (entry s k).deadline - (entry s k).duration → ¬ RoomAt s k m

-- T, the time table rule: its evidence is the first slot whose usage is above the capacity; the earliest start is the smallest that has room.
pub record IsT (rule : Meaning) : Type 0 where
  pub named : (s : Sheet) → Sound s → Named (Crowded s) (rule.evidence s)
  pub start : (s : Sheet) → Sound s → (k : ℕ) → k < count s → (n : ℕ) × (FirstRoom s k n ⊎ NoRoom s k n) × (rule.earliest s k ≡ Some n)
  pub absent : (s : Sheet) → Sound s → (k : ℕ) → count s ≤ k → rule.earliest s k ≡ None
