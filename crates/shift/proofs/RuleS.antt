-- S and its law.
use Rattle.std.proofs.Common.{◌≡◌, ℕ, ◌+◌, ◌-◌, ◌*◌, ◌<◌, ◌≤◌, true, ◌&&◌, ltb, leb, ◌⊎◌, Some, None, Option, refl, ap, ◌∙◌, inl, inr, arith}
use Rattle.std.proofs.ByRecursion.{All-weaker}
use Rattle.std.proofs.lemmas.Bool.{cases_Bool, and_parts, and_from, lt-ltb, le-ltb, le-leb, ltb-true, leb-true, cond-true, cond-false}
use Rattle.model.specs.declared.intervals.Interval.{Interval}
use Rattle.model.specs.Sheets.{Sheet, Sound, Placement, count, entry, horizon}
use Rattle.model.specs.Energy.{IsInterval, energy, NegativeSomewhere, lack, ceiling, ForcedEnd}
use Rattle.model.specs.Rules.{Meaning, Lawful, Named, NoLater}
use Rattle.model.specs.Shift.{NegativeCandidate, GreatestStart, IsS}
use Rattle.model.proofs.Search.{named_unique}
use Rattle.shift.specs.Meaning.{
  from_to,
  candidates,
  interval?,
  negative?,
  first_that,
  first_negative,
  forces?,
  forced_start,
  greatest,
  start_beside,
  earliest_S,
  meaning_S,
}
use Rattle.shift.specs.Theorems.{SKeepsTheLaw, SIsExact}
use Rattle.shift.proofs.LeastSlack.{least_slack_is_at_a_candidate}
use Rattle.shift.proofs.Spent.{never_negative, ends_late, forced_inside}
use Rattle.shift.proofs.Listed.{by_list, CandidateIf, listed_candidates, FirstIn, first_in, greatest_low, greatest_above, greatest_reached}

-- ---- every meaning that is S keeps the law

some_or_none : (o : Option Interval) → ((i : Interval) × (o ≡ Some i)) ⊎ (o ≡ None)
some_or_none (Some i) = inl (i, refl)
some_or_none None = inr refl

-- no forced start passes a start of a placement
no_sooner : (s : Sheet) → Sound s → (k : ℕ) → k < count s → (n : ℕ) → GreatestStart s k n → (start : ℕ → ℕ) → Placement s start → n ≤ start k
no_sooner s sound k l n g start p =
    elim g.reached [
      | inl e ↦ omega (arith, p.released k l)
      | inr (end, f, e) ↦
          omega (arith, ends_late s sound start p k l f.t1 f.t2 f.candidate.interval f.short, f.past)
    ]

-- without negative slack, no forced start passes the last that the window allows
pub greatest_inside : (s : Sheet) → Sound s → ((t1 t2 : ℕ) → ¬ NegativeCandidate s t1 t2) → (k : ℕ) → k < count s → (n : ℕ) →
    GreatestStart s k n → n ≤ (entry s k).deadline - (entry s k).duration
greatest_inside s sound clear k l n g =
    let good = sound.each k l in
    elim g.reached [
      | inl e ↦ omega arith
      | inr (end, f, e) ↦
          let inside = forced_inside s sound k l f.t1 f.t2
          (λ over. clear f.t1 f.t2 (record { candidate = f.candidate; negative = over })) f.closes in
          omega (arith, f.past)
    ]

module _ (rule : Meaning) (is : IsS rule) (s : Sheet) (sound : Sound s) where
  negative_if_some : (i : Interval) → rule.evidence s ≡ Some i → NegativeCandidate s i.t1 i.t2
  negative_if_some i e = let f = rw e at (is.named s sound) in f.0

  clear_if_none : rule.evidence s ≡ None → (t1 t2 : ℕ) → ¬ NegativeCandidate s t1 t2
  clear_if_none e = rw e at (is.named s sound)

  present : (k : ℕ) → k < count s → (n : ℕ) × (rule.earliest s k ≡ Some n) × (n ≤ horizon)
  present k l =
      let good = sound.each k l in
      elim (some_or_none (rule.evidence s)) [
        | inl (i, e) ↦ ((entry s k).release, is.stays s sound i.t1 i.t2 (negative_if_some i e) k l, omega arith)
        | inr none ↦
            let clear = clear_if_none none in
            let (n, g, e) = is.start s sound clear k l in
            (n, e, omega (arith, greatest_inside s sound clear k l n g))
      ]

  exact : (((i : Interval) × (rule.evidence s ≡ Some i)) → NegativeSomewhere s) × (NegativeSomewhere s → (i : Interval) × (rule.evidence s ≡ Some i))
  exact = (
    λ (i, e). let o = negative_if_some i e in (i.t1, i.t2, o.candidate.interval, o.negative),
    λ o.
        elim (some_or_none (rule.evidence s)) [
          | inl found ↦ found
          | inr none ↦ let (t1, t2, c, l) = least_slack_is_at_a_candidate s sound o in absurd (clear_if_none none t1 t2 c)
        ],
  )

  exact_none : (rule.evidence s ≡ None → ¬ NegativeSomewhere s) × (¬ NegativeSomewhere s → rule.evidence s ≡ None)
  exact_none = (
    λ none o. let (t1, t2, c, l) = least_slack_is_at_a_candidate s sound o in clear_if_none none t1 t2 c,
    λ clear. elim (some_or_none (rule.evidence s)) [ inl found ↦ absurd (clear (exact.0 found)) | inr none ↦ none ],
  )

pub lawful_S : (rule : Meaning) → IsS rule → Lawful rule
lawful_S rule is =
    record {
      proper = record {
        tells = λ s sound i e. (negative_if_some rule is s sound i e).candidate.interval;
        present = present rule is;
        absent = is.absent;
      };
      refutes = λ s sound i e start p.
          let o = negative_if_some rule is s sound i e in never_negative s start p i.t1 i.t2 o.candidate.interval o.negative;
      never_before = λ s sound none start p k n l e.
          let (m, g, e') = is.start s sound (clear_if_none rule is s sound none) k l in
          let same : n ≡ m = cc in
          omega (arith, no_sooner s sound k l m g start p);
    }

pub s_is_exact : SIsExact
s_is_exact rule is s sound = (exact rule is s sound, exact_none rule is s sound)

-- ---- the computation is S: evidence
interval_true : (i : Interval) → interval? i ≡ true → IsInterval i.t1 i.t2
interval_true i e =
    let (a, b) = and_parts (ltb i.t1 i.t2) (leb i.t2 horizon) e in
    record { ordered = ltb-true i.t1 i.t2 a; inside = leb-true i.t2 horizon b }

true_interval : (i : Interval) → IsInterval i.t1 i.t2 → interval? i ≡ true
true_interval i h = and_from (ltb i.t1 i.t2) (leb i.t2 horizon) (lt-ltb _ _ h.ordered) (le-leb _ _ h.inside)

module _ (s : Sheet) where
  negative_true : (i : Interval) → CandidateIf s i.t1 i.t2 → negative? s i ≡ true → NegativeCandidate s i.t1 i.t2
  negative_true i c e =
      let (a, b) = and_parts (interval? i) (ltb (s.capacity * (i.t2 - i.t1)) (energy s i.t1 i.t2)) e in
      record { candidate = c (interval_true i a); negative = ltb-true _ _ b }

  true_negative : (t1 t2 : ℕ) → NegativeCandidate s t1 t2 → negative? s (from_to t1 t2) ≡ true
  true_negative t1 t2 n =
      and_from (interval? (from_to t1 t2)) (ltb (s.capacity * (t2 - t1)) (energy s t1 t2))
      (true_interval (from_to t1 t2) n.candidate.interval) (lt-ltb _ _ n.negative)

  abbrev Negative : Interval → Type 0
  Negative i = NegativeCandidate s i.t1 i.t2

  by_first : (o : Option Interval) → FirstIn (negative? s) Negative (candidates s) o → Named (NegativeCandidate s) o
  by_first (Some i) f = (
    f.0,
    λ t1 t2 n. by_list s (λ t1 t2. negative? s (from_to t1 t2) ≡ true → NoLater i t1 t2) f.1 t1 t2 n.candidate (true_negative t1 t2 n),
  )
  by_first None f =
      λ t1 t2 n. by_list s (λ t1 t2. ¬ (negative? s (from_to t1 t2) ≡ true)) f t1 t2 n.candidate (true_negative t1 t2 n)

  pub named_S : Named (NegativeCandidate s) (first_negative s)
  unfolding first_negative
  named_S =
      by_first (first_that (negative? s) (candidates s))
      (first_in (negative? s) Negative (candidates s) (All-weaker _ _ negative_true (candidates s) (listed_candidates s)))

-- ---- the computation is S: starts
module _ (s : Sheet) (k : ℕ) where
  true_forces : (end : ℕ) (f : ForcedEnd s k end) → forces? s k (from_to f.t1 f.t2) ≡ true
  true_forces end f =
      and_from (interval? (from_to f.t1 f.t2)) (ltb f.t2 (entry s k).deadline && ltb 0 (lack s k f.t1 f.t2))
      (true_interval (from_to f.t1 f.t2) f.candidate.interval)
      (and_from (ltb f.t2 (entry s k).deadline) (ltb 0 (lack s k f.t1 f.t2)) (lt-ltb _ _ f.closes) (lt-ltb _ _ f.short))

  forces_true : (i : Interval) → CandidateIf s i.t1 i.t2 → forces? s k i ≡ true →
      ForcedEnd s k (i.t2 + ceiling (lack s k i.t1 i.t2) (entry s k).demand)
  forces_true i c e =
      let (a, rest) = and_parts (interval? i) (ltb i.t2 (entry s k).deadline && ltb 0 (lack s k i.t1 i.t2)) e in
      let (b, d) = and_parts (ltb i.t2 (entry s k).deadline) (ltb 0 (lack s k i.t1 i.t2)) rest in
      record { t1 = i.t1; t2 = i.t2; candidate = c (interval_true i a); closes = ltb-true _ _ b; short = ltb-true _ _ d; past = refl }

  pub greatest_found : GreatestStart s k (greatest (forced_start s k) (entry s k).release (candidates s))
  greatest_found =
      let n = greatest (forced_start s k) (entry s k).release (candidates s) in
      let low = greatest_low (forced_start s k) (entry s k).release (candidates s) in
      record {
        released = low;
        forced = λ end f.
            let le : forced_start s k (from_to f.t1 f.t2) ≤ n =
            by_list s (λ t1 t2. forced_start s k (from_to t1 t2) ≤ n)
            (greatest_above (forced_start s k) (entry s k).release (candidates s)) f.t1 f.t2 f.candidate in
            let is = cond-true (forces? s k (from_to f.t1 f.t2))
            ((f.t2 + ceiling (lack s k f.t1 f.t2) (entry s k).demand) - (entry s k).duration) 0 (true_forces end f) in
            omega (arith, f.past);
        reached =
            elim (greatest_reached (forced_start s k) (entry s k).release (λ i. CandidateIf s i.t1 i.t2) (candidates s) (listed_candidates s)) [
              | inl e ↦ inl e
              | inr (i, c, e) ↦
                  let end = i.t2 + ceiling (lack s k i.t1 i.t2) (entry s k).demand in
                  elim (cases_Bool (forces? s k i)) [
                    | inl yes' ↦ inr (end, forces_true i c yes', e ∙ cond-true (forces? s k i) (end - (entry s k).duration) 0 yes')
                    | inr no' ↦ let z = e ∙ cond-false (forces? s k i) (end - (entry s k).duration) 0 no' in inl (omega arith)
                  ]
            ];
      }

  pub present_S : k < count s → meaning_S.earliest s k ≡ Some (start_beside (first_negative s) s k)
  unfolding earliest_S
  present_S l = cond-true (ltb k (count s)) _ _ (lt-ltb k (count s) l)

  pub absent_S : count s ≤ k → meaning_S.earliest s k ≡ None
  unfolding earliest_S
  absent_S l = cond-false (ltb k (count s)) _ _ (le-ltb k (count s) l)

  -- the start beside evidence, and beside none
  beside_negative : (t1 t2 : ℕ) → NegativeCandidate s t1 t2 → (o : Option Interval) → Named (NegativeCandidate s) o →
      start_beside o s k ≡ (entry s k).release
  beside_negative t1 t2 n (Some i) f = refl
  beside_negative t1 t2 n None f = absurd (f t1 t2 n)

  beside_none : ((t1 t2 : ℕ) → ¬ NegativeCandidate s t1 t2) → (o : Option Interval) → Named (NegativeCandidate s) o →
      start_beside o s k ≡ greatest (forced_start s k) (entry s k).release (candidates s)
  beside_none clear (Some i) f = absurd (clear i.t1 i.t2 f.0)
  beside_none clear None f = refl

  -- there is one greatest start
  pub greatest_unique : (m n : ℕ) → GreatestStart s k m → GreatestStart s k n → m ≡ n
  greatest_unique m n g h =
      let a : m ≤ n = elim g.reached [ inl e ↦ omega (arith, h.released) | inr (end, f, e) ↦ omega (arith, h.forced end f) ] in
      let b : n ≤ m = elim h.reached [ inl e ↦ omega (arith, g.released) | inr (end, f, e) ↦ omega (arith, g.forced end f) ] in
      omega arith

  -- ---- whoever finds the answers has found S's
  pub start_is_S : ((t1 t2 : ℕ) → ¬ NegativeCandidate s t1 t2) → k < count s → (n : ℕ) → GreatestStart s k n → meaning_S.earliest s k ≡ Some n
  start_is_S clear l n g =
      present_S l ∙ ap Some (beside_none clear (first_negative s) (named_S s) ∙ greatest_unique _ n greatest_found g)

  pub stays_S : (t1 t2 : ℕ) → NegativeCandidate s t1 t2 → k < count s → meaning_S.earliest s k ≡ Some (entry s k).release
  stays_S t1 t2 n l = present_S l ∙ ap Some (beside_negative t1 t2 n (first_negative s) (named_S s))

pub evidence_is_S : (s : Sheet) (o : Option Interval) → Named (NegativeCandidate s) o → meaning_S.evidence s ≡ o
evidence_is_S s o n = named_unique (NegativeCandidate s) (first_negative s) o (named_S s) n

pub is_S : IsS meaning_S
is_S =
    record {
      named = λ s sound. named_S s;
      start = λ s sound clear k l.
          let n = greatest (forced_start s k) (entry s k).release (candidates s) in
          (n, greatest_found s k, start_is_S s k clear l n (greatest_found s k));
      stays = λ s sound t1 t2 n k l. stays_S s k t1 t2 n l;
      absent = λ s sound k l. absent_S s k l;
    }

pub s_keeps_the_law : SKeepsTheLaw
s_keeps_the_law = (is_S, lawful_S)
