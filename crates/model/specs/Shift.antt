-- S, the shift rule.
use Rattle.std.specs.Prelude.{◌≡◌, ℕ, ◌-◌, ◌<◌, ◌≤◌, ◌⊎◌, Some, None}
use Rattle.model.specs.Sheets.{Sheet, Sound, count, entry}
use Rattle.model.specs.Energy.{Candidate, NegativeSlack, ForcedEnd}
use Rattle.model.specs.Rules.{Meaning, Named}

-- A candidate of negative slack.
pub record NegativeCandidate (s : Sheet) (t1 t2 : ℕ) : Type 0 where
  pub candidate : Candidate s t1 t2
  pub negative : NegativeSlack s t1 t2

-- The greatest of the release and of each end that the entry at place k is forced to, minus the duration.
pub record GreatestStart (s : Sheet) (k n : ℕ) : Type 0 where
  pub released : (entry s k).release ≤ n
  pub forced : (end : ℕ) → ForcedEnd s k end → end - (entry s k).duration ≤ n
  pub reached : (n ≡ (entry s k).release) ⊎ ((end : ℕ) × ForcedEnd s k end × (n ≡ end - (entry s k).duration))

-- S, the shift rule: its evidence is the first candidate of negative slack; the earliest start is the greatest that is forced,
-- and the release where the sheet has such a candidate.
pub record IsS (rule : Meaning) : Type 0 where
  pub named : (s : Sheet) → Sound s → Named (NegativeCandidate s) (rule.evidence s)
  pub start : (s : Sheet) → Sound s → ((t1 t2 : ℕ) → ¬ NegativeCandidate s t1 t2) → (k : ℕ) → k < count s →
      (n : ℕ) × GreatestStart s k n × (rule.earliest s k ≡ Some n)
  pub stays : (s : Sheet) → Sound s → (t1 t2 : ℕ) → NegativeCandidate s t1 t2 → (k : ℕ) → k < count s →
      rule.earliest s k ≡ Some (entry s k).release
  pub absent : (s : Sheet) → Sound s → (k : ℕ) → count s ≤ k → rule.earliest s k ≡ None
