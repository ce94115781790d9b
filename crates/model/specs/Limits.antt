-- The limits that every row of every board keeps, each stated of all rows by their place.
use Rattle.std.specs.Prelude.{◌≡◌, ℕ, ◌+◌, ◌<◌, ◌≤◌, List, length, slice_index_or}
use Rattle.model.specs.declared.rows.Row.{Row}
use Rattle.model.specs.Sheets.{horizon}

-- The greatest profile, and the least and the greatest bearer identity.
abbrev pub profile_max : ℕ
profile_max = 255

abbrev pub bearer_min : ℕ
bearer_min = 5

abbrev pub bearer_max : ℕ
bearer_max = 15

-- What stands past the last row.
abbrev pub no_row : Row
no_row =
    record {
      pair = record { profile = 0; bearer = 0 };
      duration = 0;
      demand = 0;
      entered = record { release = 0; deadline = 0 };
      present = record { release = 0; deadline = 0 };
    }

-- The row at a place, counted from 0.
abbrev pub row_at : List Row → ℕ → Row
row_at rows k = slice_index_or rows k no_row

-- P holds of every row.
abbrev pub EachRow : (Row → Type 0) → List Row → Type 0
EachRow P rows = (k : ℕ) → k < length rows → P (row_at rows k)

-- The pair of a row lies within the limits.
abbrev pub Named : Row → Type 0
Named row = (row.pair.profile ≤ profile_max) × (bearer_min ≤ row.pair.bearer) × (row.pair.bearer ≤ bearer_max)

-- A row lasts some slots, and takes some channels, no more than the capacity.
abbrev pub Sized : ℕ → Row → Type 0
Sized capacity row = (1 ≤ row.duration) × (1 ≤ row.demand) × (row.demand ≤ capacity)

-- The present window of a row has room for its duration, and lies inside the entered one, which ends by the last slot.
abbrev pub Windowed : Row → Type 0
Windowed row =
    (row.present.release + row.duration ≤ row.present.deadline)
    × (row.entered.release ≤ row.present.release)
    × (row.present.deadline ≤ row.entered.deadline)
    × (row.entered.deadline ≤ horizon)

-- No two rows have the same pair.
abbrev pub Apart : List Row → Type 0
Apart rows = (j k : ℕ) → j < k → k < length rows → ¬ ((row_at rows j).pair ≡ (row_at rows k).pair)

-- Rows within all of these limits.
pub record SoundRows (capacity : ℕ) (rows : List Row) : Type 0 where
  pub named : EachRow Named rows
  pub sized : EachRow (Sized capacity) rows
  pub windowed : EachRow Windowed rows
  pub apart : Apart rows
