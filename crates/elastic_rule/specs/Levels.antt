-- What is filled up to a deadline, at the place of each entry.
use Rattle.std.specs.Prelude.{◌≡◌, ℕ, ◌+◌, ◌<◌, ◌≤◌, ◌⊎◌, List, length, slice_index}
use Rattle.model.specs.Total.{total}
use Rattle.model.specs.Sheets.{Sheet, count, entry, rows_max}
use Rattle.model.specs.Energy.{work_inside, work_in}
use Rattle.elastic.specs.Pushes.{filled}

-- At the place of each of the first n entries stands what is filled up to t2 from its release.
abbrev pub Levels : Sheet → ℕ → ℕ → List ℕ → Type 0
Levels s t2 n levels = (k : ℕ) → k < n → slice_index levels k ≡ filled s (entry s k).release t2

-- The levels of the first p entries stand; `inside` is the work from the last of their releases on, and `rest` the work of the other entries.
pub record Levelled (s : Sheet) (t2 : ℕ) (levels : List ℕ) (p release inside rest : ℕ) : Type 0 where
  pub long : length levels ≡ rows_max
  pub stand : Levels s t2 p levels
  pub last : inside ≡ work_in s release t2
  pub others : rest + total p (λ q. work_inside 0 t2 (entry s q)) ≡ work_in s 0 t2
  pub past : (q : ℕ) → q < p → (entry s q).release ≤ release
  pub ahead : (q : ℕ) → p ≤ q → q < count s → release ≤ (entry s q).release

-- The highest of the first n levels, and 0 of none.
pub record Highest (levels : List ℕ) (n best : ℕ) : Type 0 where
  pub most : (q : ℕ) → q < n → slice_index levels q ≤ best
  pub reached : (best ≡ 0) ⊎ ((q : ℕ) × (q < n) × (best ≡ slice_index levels q))
