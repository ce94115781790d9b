-- E, the elastic rule.
use Rattle.std.specs.Prelude.{◌≡◌, ℕ, ◌+◌, ◌-◌, ◌<◌, ◌≤◌, Some, None}
use Rattle.model.specs.Sheets.{Sheet, Sound, count, entry, cut}
use Rattle.model.specs.Energy.{Overfull, NowhereOverfull}
use Rattle.model.specs.Rules.{Meaning, Named}

-- The smallest deadline e, from release + duration to the deadline, to which the entry at place k can be cut
-- so that no interval is overfull.
pub record SmallestDeadline (s : Sheet) (k e : ℕ) : Type 0 where
  pub low : (entry s k).release + (entry s k).duration ≤ e
  pub high : e ≤ (entry s k).deadline
  pub enough : NowhereOverfull (cut s k e)
  pub smallest : (d : ℕ) → (entry s k).release + (entry s k).duration ≤ d → d < e → ¬ NowhereOverfull (cut s k d)

-- E, the elastic rule: its evidence is the first overfull interval; the earliest start is the smallest deadline minus the duration,
-- and the release where the sheet is overfull.
pub record IsE (rule : Meaning) : Type 0 where
  pub named : (s : Sheet) → Sound s → Named (Overfull s) (rule.evidence s)
  pub start : (s : Sheet) → Sound s → NowhereOverfull s → (k : ℕ) → k < count s →
      (e : ℕ) × SmallestDeadline s k e × (rule.earliest s k ≡ Some (e - (entry s k).duration))
  pub stays : (s : Sheet) → Sound s → ¬ NowhereOverfull s → (k : ℕ) → k < count s → rule.earliest s k ≡ Some (entry s k).release
  pub absent : (s : Sheet) → Sound s → (k : ℕ) → count s ≤ k → rule.earliest s k ≡ None
