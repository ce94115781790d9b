-- What a pass over the deadlines has found.
use Rattle.std.specs.Prelude.{◌≡◌, ℕ, ◌+◌, ◌≤◌, List, length, slice_index}
use Rattle.model.specs.Sheets.{Sheet, count, rows_max}
use Rattle.model.specs.Rules.{Named}
use Rattle.elastic_rule.specs.declared.passes.Pass.{Pass}
use Rattle.elastic_rule.specs.Levels.{Highest}
use Rattle.elastic_rule.specs.Tried.{Tried}
use Rattle.elastic_rule.specs.Ends.{Ends}

-- By the first n deadlines a pass has found the first overfull interval to one of them, if any, and the end to which they push each entry.
pub record Passed (s : Sheet) (n : ℕ) (found : Pass) : Type 0 where
  pub places : length found.ends ≡ rows_max
  pub first : Named (Tried s n 0) found.first
  pub ends : Ends s n (count s) found.ends

-- Deadline n has been added to what was found before it for the first m entries, the highest of whose levels is `highest`.
pub record Adding (s : Sheet) (n m highest : ℕ) (levels : List ℕ) (before found : Pass) : Type 0 where
  pub places : length found.ends ≡ rows_max
  pub first : Named (Tried s n m) found.first
  pub level : Highest levels m highest
  pub ends : Ends s (n + 1) m found.ends
  pub others : (k : ℕ) → m ≤ k → slice_index found.ends k ≡ slice_index before.ends k
