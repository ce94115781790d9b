-- The definition that computes is E.
use Rattle.std.proofs.Common.{◌≡◌, ℕ, ◌+◌, ◌-◌, ◌*◌, ◌<◌, ◌≤◌, Bool, true, false, cond, ltb, is_some, Some, None, Option, sym, refl, ap, ◌∙◌, inl, inr, arith}
use Rattle.std.proofs.lemmas.Bool.{cases_lt, cases_Bool, cond-true, cond-false, and_parts, and_from, ltb-true, lt-ltb, le-ltb, both_ways, true≢false, not-true, not_from_false}
use Rattle.model.specs.Sheets.{Sheet, Sound, count, entry, cut}
use Rattle.model.specs.Energy.{Overfull, NowhereOverfull, work_in}
use Rattle.model.specs.Rules.{Named}
use Rattle.model.specs.Elastic.{SmallestDeadline, IsE}
use Rattle.model.proofs.Cuts.{cut_own}
use Rattle.elastic.specs.Meaning.{overfull, overfull_to, overfull_from, interval_to, interval_from, evidence_E, clear, smallest_deadline, earliest_E, meaning_E}
use Rattle.elastic.proofs.Searches.{Smallest, smallest_is, First, first_is}

-- ---- evidence
module _ (s : Sheet) where
  abbrev releases : ℕ → ℕ
  releases k = (entry s k).release

  abbrev deadlines : ℕ → ℕ
  deadlines k = (entry s k).deadline

  to_is : (t1 : ℕ) → Smallest (count s) deadlines (overfull s t1) (overfull_to s t1)
  unfolding overfull_to
  to_is t1 = smallest_is (count s) deadlines (overfull s t1)

  abbrev opens_some : ℕ → Bool
  opens_some t1 = is_some (overfull_to s t1)

  from_is : Smallest (count s) releases opens_some (overfull_from s)
  unfolding overfull_from
  from_is = smallest_is (count s) releases opens_some

  overfull_test : (t1 t2 : ℕ) → Overfull s t1 t2 → overfull s t1 t2 ≡ true
  overfull_test t1 t2 o =
      and_from (ltb t1 t2) (ltb (s.capacity * (t2 - t1)) (work_in s t1 t2)) (lt-ltb t1 t2 o.ordered)
      (lt-ltb (s.capacity * (t2 - t1)) (work_in s t1 t2) o.over)

  -- an overfull interval passes the tests
  found_to : (t1 t2 : ℕ) → Overfull s t1 t2 → (o : Option ℕ) → Smallest (count s) deadlines (overfull s t1) o → is_some o ≡ true
  found_to t1 t2 over (Some m) is = refl
  found_to t1 t2 over None none =
      let (j, l, e) = over.closes in
      absurd (both_ways (overfull s t1 (deadlines j)) (none j l) (rw e (overfull_test t1 t2 over)))

  opens_some_test : (t1 t2 : ℕ) → Overfull s t1 t2 → opens_some t1 ≡ true
  opens_some_test t1 t2 over = found_to t1 t2 over (overfull_to s t1) (to_is t1)

  -- from the smallest release the interval to the smallest deadline is the first
  module _ (t1 : ℕ) (at : (i : ℕ) × (i < count s) × (releases i ≡ t1)) (low : (i : ℕ) → i < count s → opens_some (releases i) ≡ true → t1 ≤ releases i) where
    named_to : (o : Option ℕ) → Smallest (count s) deadlines (overfull s t1) o → is_some o ≡ true → Named (Overfull s) (interval_to t1 o)
    named_to None none some = absurd (true≢false (sym some))
    named_to (Some t2) (closes, passed, low2) some =
        let p = and_parts (ltb t1 t2) (ltb (s.capacity * (t2 - t1)) (work_in s t1 t2)) passed in (
          record {
            opens = at;
            closes = closes;
            ordered = ltb-true t1 t2 p.0;
            over = ltb-true (s.capacity * (t2 - t1)) (work_in s t1 t2) p.1;
          },
          λ u1 u2 over.
              let (i, li, ei) = over.opens in
              let (j, lj, ej) = over.closes in
              let first : t1 ≤ u1 = rw ei at (low i li (rw ei (opens_some_test u1 u2 over))) in
              elim (cases_lt t1 u1) [
                | inl less ↦ inl less
                | inr more ↦
                    let same : u1 ≡ t1 = omega arith in
                    let over' : Overfull s t1 u2 = rw same at over in
                    inr (omega arith, rw ej at (low2 j lj (rw ej (overfull_test t1 u2 over'))))
              ],
        )

  named_from : (o : Option ℕ) → Smallest (count s) releases opens_some o → Named (Overfull s) (interval_from s o)
  named_from None none = λ t1 t2 over.
      let (i, l, e) = over.opens in
      both_ways (opens_some (releases i)) (none i l) (rw e (opens_some_test t1 t2 over))
  named_from (Some t1) (at, some, low) = named_to t1 at low (overfull_to s t1) (to_is t1) some

  pub named_E : Named (Overfull s) (evidence_E s)
  unfolding evidence_E
  named_E = named_from (overfull_from s) from_is

  -- whether the sheet is clear
  clear_from : (o : Option ℕ) → Smallest (count s) releases opens_some o → is_some o ≡ false → NowhereOverfull s
  clear_from (Some t1) is none = absurd (true≢false none)
  clear_from None is none = named_from None is

  pub nowhere_if_clear : clear s ≡ true → NowhereOverfull s
  nowhere_if_clear c = clear_from (overfull_from s) from_is (not-true (is_some (overfull_from s)) c)

  clear_of : (o : Option ℕ) → Smallest (count s) releases opens_some o → NowhereOverfull s → is_some o ≡ false
  clear_of None is none = refl
  clear_of (Some t1) (at, some, low) none =
      absurd (over_at (overfull_to s t1) (to_is t1) some)
    where
      over_at : (o : Option ℕ) → Smallest (count s) deadlines (overfull s t1) o → is_some o ≡ true → ⊥
      over_at None h found = true≢false (sym found)
      over_at (Some t2) h found = none t1 t2 (named_to t1 at low (Some t2) h found).0

  pub clear_if_nowhere : NowhereOverfull s → clear s ≡ true
  clear_if_nowhere none = not_from_false (is_some (overfull_from s)) (clear_of (overfull_from s) from_is none)

-- ---- earliest starts
module _ (s : Sheet) (sound : Sound s) (k : ℕ) (here : k < count s) where
  abbrev soonest : ℕ
  soonest = (entry s k).release + (entry s k).duration

  deadline_first : First ((entry s k).deadline - soonest) soonest (λ e. clear (cut s k e)) (smallest_deadline s k)
  unfolding smallest_deadline
  deadline_first = first_is ((entry s k).deadline - soonest) soonest (λ e. clear (cut s k e))

  pub smallest_is_E : NowhereOverfull s → SmallestDeadline s k (smallest_deadline s k)
  smallest_is_E none =
      let g = sound.each k here in
      let first = deadline_first in
      let e = smallest_deadline s k in
      record {
        low = first.low;
        high = omega (arith, first.high);
        enough = elim (cases_lt e (entry s k).deadline) [
          | inl l ↦ nowhere_if_clear (cut s k e) (first.passed (omega arith))
          | inr l ↦
              let same : e ≡ (entry s k).deadline = omega (arith, first.high) in
              rw same (rw (cut_own s k) none)
        ];
        smallest = λ d low less clear'. both_ways (clear (cut s k d)) (first.first d low less) (clear_if_nowhere (cut s k d) clear');
      }

  start_E : NowhereOverfull s → earliest_E s k ≡ Some (smallest_deadline s k - (entry s k).duration)
  unfolding earliest_E
  start_E none =
      cond-true (ltb k (count s)) (Some (cond (clear s) (smallest_deadline s k - (entry s k).duration) (entry s k).release)) None (lt-ltb k (count s) here)
      ∙ ap Some (cond-true (clear s) (smallest_deadline s k - (entry s k).duration) (entry s k).release (clear_if_nowhere s none))

  stays_E : ¬ NowhereOverfull s → earliest_E s k ≡ Some (entry s k).release
  unfolding earliest_E
  stays_E full =
      cond-true (ltb k (count s)) (Some (cond (clear s) (smallest_deadline s k - (entry s k).duration) (entry s k).release)) None (lt-ltb k (count s) here)
      ∙ ap Some (cond-false (clear s) (smallest_deadline s k - (entry s k).duration) (entry s k).release not_clear)
    where
      not_clear : clear s ≡ false
      not_clear = elim (cases_Bool (clear s)) [ inl c ↦ absurd (full (nowhere_if_clear s c)) | inr c ↦ c ]

absent_E : (s : Sheet) (k : ℕ) → count s ≤ k → earliest_E s k ≡ None
unfolding earliest_E
absent_E s k l =
    cond-false (ltb k (count s)) (Some (cond (clear s) (smallest_deadline s k - (entry s k).duration) (entry s k).release)) None (le-ltb k (count s) l)

pub is_E : IsE meaning_E
is_E =
    record {
      named = λ s sound. named_E s;
      start = λ s sound none k l. (smallest_deadline s k, smallest_is_E s sound k l none, start_E s sound k l none);
      stays = λ s sound full k l. stays_E s sound k l full;
      absent = λ s sound k l. absent_E s k l;
    }
