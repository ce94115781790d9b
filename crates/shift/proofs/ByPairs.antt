-- What a search over pairs of entries has to show, so that its answers are those of S.
use Rattle.std.proofs.Common.{◌≡◌, ℕ, ◌+◌, ◌-◌, ◌<◌, ◌≤◌, ◌⊎◌, Some, None, arith}
use Rattle.model.specs.declared.intervals.Interval.{Interval}
use Rattle.model.specs.Sheets.{Sheet, count, entry}
use Rattle.model.specs.Energy.{IsInterval, NegativeSlack, lack, ceiling, ForcedEnd}
use Rattle.model.specs.Rules.{Named, NoLater}
use Rattle.model.specs.Shift.{NegativeCandidate, GreatestStart}
use Rattle.shift.specs.Meaning.{made_by}
use Rattle.shift.proofs.Listed.{HoldsOn, by_pairs}

-- P holds of all that pairs of entries make.
abbrev pub OnPairs : Sheet → (ℕ → ℕ → Type 0) → Type 0
OnPairs s P = (a b : ℕ) → a < count s → b < count s → HoldsOn P (made_by (entry s a) (entry s b))

module _ (s : Sheet) where
  pub some_by_pairs : (i : Interval) → NegativeCandidate s i.t1 i.t2 →
      OnPairs s (λ t1 t2. IsInterval t1 t2 → NegativeSlack s t1 t2 → NoLater i t1 t2) → Named (NegativeCandidate s) (Some i)
  some_by_pairs i n h = (n, λ t1 t2 m. by_pairs s (λ t1 t2. IsInterval t1 t2 → NegativeSlack s t1 t2 → NoLater i t1 t2) h t1 t2 m.candidate m.candidate.interval m.negative)

  pub none_by_pairs : OnPairs s (λ t1 t2. IsInterval t1 t2 → ¬ NegativeSlack s t1 t2) → Named (NegativeCandidate s) None
  none_by_pairs h = λ t1 t2 m. by_pairs s (λ t1 t2. IsInterval t1 t2 → ¬ NegativeSlack s t1 t2) h t1 t2 m.candidate m.candidate.interval m.negative

  pub start_by_pairs : (k n : ℕ) → (entry s k).release ≤ n →
      (n ≡ (entry s k).release) ⊎ ((end : ℕ) × ForcedEnd s k end × (n ≡ end - (entry s k).duration)) →
      OnPairs s (λ t1 t2. IsInterval t1 t2 → t2 < (entry s k).deadline → 0 < lack s k t1 t2 →
      (t2 + ceiling (lack s k t1 t2) (entry s k).demand) - (entry s k).duration ≤ n) →
      GreatestStart s k n
  start_by_pairs k n low reached h =
      record {
        released = low;
        forced = λ end f.
            let le = by_pairs s (λ t1 t2. IsInterval t1 t2 → t2 < (entry s k).deadline → 0 < lack s k t1 t2 →
            (t2 + ceiling (lack s k t1 t2) (entry s k).demand) - (entry s k).duration ≤ n) h f.t1 f.t2 f.candidate
            f.candidate.interval f.closes f.short in
            omega (arith, f.past);
        reached = reached;
      }
