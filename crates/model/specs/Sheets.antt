-- Sheets, their placements and their elastic schedules.
use Rattle.std.specs.Prelude.{◌≡◌, ℕ, ◌+◌, ◌-◌, ◌*◌, ◌<◌, ◌≤◌, cond, ◌&&◌, List, map, length, Some, None, Option, nat_le, nat_lt, slice_index_or, slice_set}
use Rattle.model.specs.declared.entries.Entry.{Entry}
use Rattle.model.specs.Total.{total}

-- The number of slots, and the end of the last one.
abbrev pub horizon : ℕ
horizon = 4032

-- The greatest capacity.
abbrev pub capacity_max : ℕ
capacity_max = 4095

-- The greatest number of entries of a sheet, and of rows of a board.
abbrev pub rows_max : ℕ
rows_max = 64

-- A sheet is what a rule reads: a capacity, and entries in order.
pub record Sheet : Type 0 where
  pub capacity : ℕ
  pub entries : List Entry

-- The number of entries.
abbrev pub count : Sheet → ℕ
count s = length s.entries

-- What stands past the last entry.
abbrev pub blank : Entry
blank = record { release = 0; deadline = 0; duration = 0; demand = 0 }

-- The entry at a place, counted from 0.
abbrev pub entry : Sheet → ℕ → Entry
entry s k = slice_index_or s.entries k blank

-- The entry at a place, absent from the count upward.
abbrev pub entry_at : Sheet → ℕ → Option Entry
entry_at s k = cond (nat_lt k (count s)) (Some (entry s k)) None

-- An entry within the limits of a capacity.
pub record SoundEntry (capacity : ℕ) (e : Entry) : Type 0 where
  pub room : e.release + e.duration ≤ e.deadline
  pub within : e.deadline ≤ horizon
  pub lasts : 1 ≤ e.duration
  pub asks : 1 ≤ e.demand
  pub fits : e.demand ≤ capacity

-- A sheet within the limits.
pub record Sound (s : Sheet) : Type 0 where
  pub some_capacity : 1 ≤ s.capacity
  pub small_capacity : s.capacity ≤ capacity_max
  pub few : count s ≤ rows_max
  pub each : (k : ℕ) → k < count s → SoundEntry s.capacity (entry s k)

-- ---- placements

-- The channels that an entry takes in slot t where it begins at `start`.
abbrev pub demand_at : ℕ → ℕ → Entry → ℕ
demand_at start t e = cond (nat_le start t && nat_lt t (start + e.duration)) e.demand 0

-- A placement gives each entry, by its place, a start inside its window, so that no slot holds more than the capacity.
pub record Placement (s : Sheet) (start : ℕ → ℕ) : Type 0 where
  pub released : (k : ℕ) → k < count s → (entry s k).release ≤ start k
  pub in_time : (k : ℕ) → k < count s → start k + (entry s k).duration ≤ (entry s k).deadline
  pub within : (t : ℕ) → t < horizon → total (count s) (λ k. demand_at (start k) t (entry s k)) ≤ s.capacity

-- No starts are a placement of the sheet.
abbrev pub NoPlacement : Sheet → Type 0
NoPlacement s = (start : ℕ → ℕ) → ¬ Placement s start

-- ---- elastic schedules

-- The work of an entry: its duration times its demand.
abbrev pub work : Entry → ℕ
work e = e.duration * e.demand

-- An elastic schedule gives each entry, by its place, a number of channels in each slot: none outside its window, its work in all,
-- and in no slot more than the capacity.
pub record Elastic (s : Sheet) : Type 0 where
  pub given : ℕ → ℕ → ℕ
  pub before : (k t : ℕ) → k < count s → t < (entry s k).release → given k t ≡ 0
  pub after : (k t : ℕ) → k < count s → (entry s k).deadline ≤ t → given k t ≡ 0
  pub whole : (k : ℕ) → k < count s → total horizon (given k) ≡ work (entry s k)
  pub within : (t : ℕ) → t < horizon → total (count s) (λ k. given k t) ≤ s.capacity

-- Some elastic schedule ends the entry at place k by slot t: it gives it nothing in t or later.
abbrev pub CanEndBy : Sheet → ℕ → ℕ → Type 0
CanEndBy s k t = (f : Elastic s) × ((u : ℕ) → t ≤ u → f.given k u ≡ 0)

-- Some elastic schedule begins the entry at place k no earlier than slot t: it gives it nothing before t.
abbrev pub CanBeginFrom : Sheet → ℕ → ℕ → Type 0
CanBeginFrom s k t = (f : Elastic s) × ((u : ℕ) → u < t → f.given k u ≡ 0)

-- Each entry can end as early as its release allows, and begin as late as its deadline allows, in elastic schedules of the sheet.
abbrev pub Tight : Sheet → Type 0
Tight s = (k : ℕ) → k < count s →
    CanEndBy s k ((entry s k).release + (entry s k).duration) × CanBeginFrom s k ((entry s k).deadline - (entry s k).duration)

-- ---- the mirror and the cut

-- An entry seen from the other end of time.
abbrev pub mirror_entry : Entry → Entry
mirror_entry e =
    record { release = horizon - e.deadline; deadline = horizon - e.release; duration = e.duration; demand = e.demand }

-- The entries of a mirror.
unfoldable pub mirror_entries : List Entry → List Entry
mirror_entries es = map mirror_entry es

-- The mirror of a sheet: time runs backwards.
abbrev pub mirror : Sheet → Sheet
mirror s = record { capacity = s.capacity; entries = mirror_entries s.entries }

-- An entry with another deadline.
abbrev pub end_at : ℕ → Entry → Entry
end_at d e = record { release = e.release; deadline = d; duration = e.duration; demand = e.demand }

-- An entry with its deadline replaced by d, where d lies between its earliest end and its deadline; for any other number the entry itself.
abbrev pub cut_entry : ℕ → Entry → Entry
cut_entry d e = cond (nat_le (e.release + e.duration) d && nat_le d e.deadline) (end_at d e) e

-- The entries with the one at place k cut at d; a place past the last changes nothing.
unfoldable pub cut_entries : List Entry → ℕ → ℕ → List Entry
cut_entries es k d = slice_set es k (cut_entry d (slice_index_or es k blank))

-- A sheet with the deadline of the entry at place k replaced by d, where d lies between its earliest end and its deadline;
-- for any other number, or a place past the last, the sheet itself.
abbrev pub cut : Sheet → ℕ → ℕ → Sheet
cut s k d = record { capacity = s.capacity; entries = cut_entries s.entries k d }
