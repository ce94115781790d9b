-- The usage of every slot, written down.
use Rattle.std.specs.Prelude.{◌≡◌, ℕ, ◌<◌, ◌≤◌, ◌⊎◌, List, length, Option, MatchOption, slice_index}
use Rattle.model.specs.Sheets.{Sheet, horizon}
use Rattle.model.specs.TimeTable.{usage}
use Rattle.rules.specs.declared.slots.Slot.{Slot}

-- The line has the usage of each slot of the sheet by the fixed parts of its entries.
pub record UsageLine (s : Sheet) (line : List ℕ) : Type 0 where
  pub slots : length line ≡ horizon
  pub each : (t : ℕ) → t < horizon → slice_index line t ≡ usage s t

-- The highest of the first n usages of a line, and 0 of none.
pub record Peak (line : List ℕ) (n peak : ℕ) : Type 0 where
  pub most : (t : ℕ) → t < n → slice_index line t ≤ peak
  pub reached : (peak ≡ 0) ⊎ ((t : ℕ) × (t < n) × (peak ≡ slice_index line t))

-- No usage of a line is above a number.
abbrev pub NoneAbove : ℕ → List ℕ → Type 0
NoneAbove peak line = (t : ℕ) → t < length line → slice_index line t ≤ peak

-- What is found in a line: the first slot whose usage is above the capacity, or nothing where no usage is above it.
abbrev pub FirstAbove : ℕ → List ℕ → Option Slot → Type 0
FirstAbove capacity line found =
    MatchOption found ((t : ℕ) → t < horizon → slice_index line t ≤ capacity)
    (λ (f : Slot). (capacity < slice_index line f.at) × ((t : ℕ) → t < f.at → slice_index line t ≤ capacity))
