-- The ends to which entries are pushed, at their places.
use Rattle.std.specs.Prelude.{ℕ, ◌<◌, List, slice_index}
use Rattle.model.specs.Sheets.{Sheet}
use Rattle.elastic.specs.Pushes.{PushedBy}

-- At the place of each of the first m entries stands the end to which the first n deadlines push it.
abbrev pub Ends : Sheet → ℕ → ℕ → List ℕ → Type 0
Ends s n m ends = (k : ℕ) → k < m → PushedBy s k n (slice_index ends k)
