-- The pairs of a release and a deadline that were tried.
use Rattle.std.specs.Prelude.{◌≡◌, ℕ, ◌-◌, ◌*◌, ◌<◌, cond, ◌&&◌, ◌||◌, ◌⊎◌, Some, None, Option, ◌==◌, nat_lt}
use Rattle.model.specs.declared.intervals.Interval.{Interval}
use Rattle.model.specs.Sheets.{Sheet, count, entry}
use Rattle.model.specs.Energy.{work_in}

-- t1, t2 is overfull from the release at place i to the deadline at place j.
pub record OverfullBetween (s : Sheet) (i j t1 t2 : ℕ) : Type 0 where
  pub release : (entry s i).release ≡ t1
  pub deadline : (entry s j).deadline ≡ t2
  pub ordered : t1 < t2
  pub over : s.capacity * (t2 - t1) < work_in s t1 t2

-- t1, t2 is overfull, and its deadline is one of the first n, or the one at place n, with one of the first m releases.
pub record Tried (s : Sheet) (n m t1 t2 : ℕ) : Type 0 where
  pub i : ℕ
  pub j : ℕ
  pub opens : i < count s
  pub closes : j < count s
  pub tried : (j < n) ⊎ ((j ≡ n) × (i < m))
  pub between : OverfullBetween s i j t1 t2

-- The first, by start and then by end, of an interval and of what was found before.
abbrev pub sooner : Option Interval → Interval → Interval
sooner None i = i
sooner (Some f) i = cond (nat_lt i.t1 f.t1 || (i.t1 == f.t1 && nat_lt i.t2 f.t2)) i f
