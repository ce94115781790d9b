-- The points that a pass has gone through.
use Rattle.std.specs.Prelude.{◌≡◌, ℕ, true, false, slice_index_or}
use Rattle.model.specs.Sheets.{Sheet}
use Rattle.shift_rule.specs.declared.slots.Slots.{Slots}
use Rattle.shift_rule.specs.declared.pass.Survey.{Survey}
use Rattle.shift_rule.specs.Found.{AccountedFrom, AccountedTo}

-- Each slot that is in a set has P.
abbrev pub Marks : (ℕ → Type 0) → Slots → Type 0
Marks P slots = (t : ℕ) → slice_index_or slots.marks t false ≡ true → P t

-- What is in the one set is accounted for as a start point, and what is in the other as an end point.
pub record GoneThrough (s : Sheet) (v : Survey) (starts ends : Slots) : Type 0 where
  pub begun : Marks (AccountedFrom s v) starts
  pub closed : Marks (AccountedTo s v) ends
