-- The room that was seen, slot by slot.
use Rattle.std.specs.Prelude.{ℕ, ◌+◌, ◌-◌, ◌<◌, ◌≤◌}
use Rattle.model.specs.Sheets.{Sheet, entry}
use Rattle.model.specs.TimeTable.{usage_of_others, RoomAt}

-- From slot a to before b the entry at place k fits beside the fixed parts of the others.
abbrev pub RoomBetween : Sheet → ℕ → ℕ → ℕ → Type 0
RoomBetween s k a b = (t : ℕ) → a ≤ t → t < b → usage_of_others s k t + (entry s k).demand ≤ s.capacity

-- Before slot t there was seen to be room from `from` on, and no start before `from` has room.
pub record Seen (s : Sheet) (k from t : ℕ) : Type 0 where
  pub released : (entry s k).release ≤ from
  pub in_time : from ≤ (entry s k).deadline - (entry s k).duration
  pub ahead : from ≤ t
  pub near : t ≤ from + (entry s k).duration
  pub room : RoomBetween s k from t
  pub none : (m : ℕ) → (entry s k).release ≤ m → m < from → ¬ RoomAt s k m
