-- How far full intervals push an entry: E's smallest deadlines in one pass over the deadlines.
use Rattle.std.specs.Prelude.{◌≡◌, ℕ, ◌+◌, ◌-◌, ◌*◌, ◌<◌, ◌≤◌, ◌⊎◌, ◌↔◌}
use Rattle.model.specs.Sheets.{Sheet, Sound, count, entry, work}
use Rattle.model.specs.Energy.{SomeEntry, NowhereOverfull, work_in}
use Rattle.model.specs.Elastic.{SmallestDeadline}

-- What is taken in all where the slots before t1 are full and what is inside t1, t2 comes after.
abbrev pub filled : Sheet → ℕ → ℕ → ℕ
filled s t1 t2 = s.capacity * t1 + work_in s t1 t2

-- b is filled up to t2 from some release no later than r, and no less than from any such release of the first n entries.
pub record Fullest (s : Sheet) (r t2 n b : ℕ) : Type 0 where
  pub most : (i : ℕ) → i < n → (entry s i).release ≤ r → filled s (entry s i).release t2 ≤ b
  pub reached : SomeEntry s (λ e. (e.release ≤ r) × (b ≡ filled s e.release t2))

-- From the release at place i, no later than its own, to the deadline at place j, before its own, there is no room for the work of the
-- entry at place k: it has to end past that deadline.
pub record Pushes (s : Sheet) (k i j : ℕ) : Type 0 where
  pub release : (entry s i).release ≤ (entry s k).release
  pub deadline : (entry s j).deadline < (entry s k).deadline
  pub over : s.capacity * (entry s j).deadline < filled s (entry s i).release (entry s j).deadline + work (entry s k)

-- e is the greatest of the earliest end of the entry at place k and of the ends to which it is pushed from the first n deadlines:
-- all that is filled fits before e, and one slot less would not do.
pub record PushedBy (s : Sheet) (k n e : ℕ) : Type 0 where
  pub low : (entry s k).release + (entry s k).duration ≤ e
  pub far : (i j : ℕ) → i < count s → j < n → Pushes s k i j →
      filled s (entry s i).release (entry s j).deadline + work (entry s k) ≤ s.capacity * e
  pub near : (e ≡ (entry s k).release + (entry s k).duration)
      ⊎ ((i j : ℕ) × (i < count s) × (j < n) × Pushes s k i j
      × (s.capacity * (e - 1) < filled s (entry s i).release (entry s j).deadline + work (entry s k)))

-- On a sheet that is nowhere overfull the smallest deadline of an entry is the end to which all deadlines push it.
abbrev pub PushesGiveTheSmallestDeadline : Type 0
PushesGiveTheSmallestDeadline = (s : Sheet) → Sound s → NowhereOverfull s → (k : ℕ) → k < count s → (e : ℕ) →
    PushedBy s k (count s) e ↔ SmallestDeadline s k e
