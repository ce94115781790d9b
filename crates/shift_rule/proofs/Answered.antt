-- From what a pass has found to the answers of S.
use Rattle.std.proofs.Common.{◌≡◌, ℕ, ◌+◌, ◌-◌, ◌<◌, ◌≤◌, List, length, get_or, Some, None, Option, refl, subst, inl, arith}
use Rattle.std.proofs.Props.{props}
use mathlib.Core.Logic.{∥∥₁_elim}
use Rattle.std.proofs.ByRecursion.{All-weaker}
use Rattle.model.specs.declared.intervals.Interval.{Interval}
use Rattle.model.specs.Sheets.{Sheet, Sound, count, entry, rows_max}
use Rattle.model.specs.Energy.{IsInterval, NegativeSlack, lack, ceiling}
use Rattle.model.specs.Rules.{Named, NoLater}
use Rattle.model.specs.Shift.{NegativeCandidate}
use Rattle.shift.specs.Meaning.{made_by, meaning_S}
use Rattle.shift.proofs.ByPairs.{OnPairs, some_by_pairs, none_by_pairs, start_by_pairs}
use Rattle.shift.proofs.RuleS.{evidence_is_S, start_is_S, is_S}
use Rattle.shift_rule.specs.declared.pass.Survey.{Survey}
use Rattle.shift_rule.specs.Found.{start_in, Right, LedBy, Accounted, AccountedAround}

-- before any interval, the releases are right
pub right_before : (s : Sheet) (starts : List ℕ) → length starts ≡ rows_max → ((k : ℕ) → k < count s → get_or starts k 0 ≡ (entry s k).release) →
    Right s (record { first = None; starts = starts })
right_before s starts many each =
    record {
      negative = λ i e. let z : ◌≡◌ {A = ℕ} 0 1 = cc in absurd (omega arith);
      starts = λ k l. record { released = omega (arith, each k l); forced = inl (each k l) };
      places = many;
    }

module _ (s : Sheet) (v : Survey) (right : Right s v) (all : (i : ℕ) → i < count s → AccountedAround s v i) where
  -- what is accounted for has each thing that follows from it
  on_pairs : (P : ℕ → ℕ → Type 0) → ((t1 t2 : ℕ) → Accounted s v t1 t2 → P t1 t2) → OnPairs s P
  on_pairs P f a b la lb =
      All-weaker (λ i. Accounted s v i.t1 i.t2) (λ i. P i.t1 i.t2) (λ i h. f i.t1 i.t2 h)
      (made_by (entry s a) (entry s b)) (all a la b lb)

  led : (o : Option Interval) → v.first ≡ o → (t1 t2 : ℕ) → Accounted s v t1 t2 → IsInterval t1 t2 → NegativeSlack s t1 t2 → LedBy o t1 t2
  led o e t1 t2 h is over = subst (λ (p : Option Interval). LedBy p t1 t2) e (h.negative is over)

  found_named : (o : Option Interval) → v.first ≡ o → Named (NegativeCandidate s) o
  found_named (Some i) e =
      some_by_pairs s i (right.negative i e)
      (on_pairs (λ t1 t2. IsInterval t1 t2 → NegativeSlack s t1 t2 → NoLater i t1 t2) (led (Some i) e))
  found_named None e = none_by_pairs s (on_pairs (λ t1 t2. IsInterval t1 t2 → ¬ NegativeSlack s t1 t2) (led None e))

  pub found_is_S : meaning_S.evidence s ≡ v.first
  found_is_S = evidence_is_S s v.first (found_named v.first refl)

  pub none_negative : v.first ≡ None → (t1 t2 : ℕ) → ¬ NegativeCandidate s t1 t2
  none_negative e = found_named None e

  pub starts_are_S : v.first ≡ None → (k : ℕ) → k < count s → meaning_S.earliest s k ≡ Some (start_in v k)
  starts_are_S none k l =
      let clear = none_negative none in
      let old = right.starts k l in
      start_is_S s k clear l (start_in v k)
      (start_by_pairs s k (start_in v k) old.released old.forced
      (on_pairs (λ t1 t2. IsInterval t1 t2 → t2 < (entry s k).deadline → 0 < lack s k t1 t2 →
      (t2 + ceiling (lack s k t1 t2) (entry s k).demand) - (entry s k).duration ≤ start_in v k)
      (λ t1 t2 h is before short. h.forced is (led None none t1 t2 h is) k l before short)))

module _ (s : Sheet) (v : Survey) (right : ∥ Right s v ∥₁) (all : (i : ℕ) → i < count s → AccountedAround s v i) where
  pub evidence_found : meaning_S.evidence s ≡ v.first
  evidence_found = ∥∥₁_elim right (hlevel props) (λ r. found_is_S s v r all)

  pub starts_found : v.first ≡ None → (k : ℕ) → k < count s → meaning_S.earliest s k ≡ Some (start_in v k)
  starts_found none k l = ∥∥₁_elim right (hlevel props) (λ r. starts_are_S s v r all none k l)

-- beside evidence every start is the release
pub stays_beside : (s : Sheet) → Sound s → (i : Interval) → meaning_S.evidence s ≡ Some i → (k : ℕ) → k < count s →
    meaning_S.earliest s k ≡ Some (entry s k).release
stays_beside s sound i e k l =
    let named : Named (NegativeCandidate s) (Some i) = subst (Named (NegativeCandidate s)) e (is_S.named s sound) in
    is_S.stays s sound i.t1 i.t2 named.0 k l
