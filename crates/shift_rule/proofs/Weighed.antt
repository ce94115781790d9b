-- What one candidate adds to what was found.
use Rattle.std.proofs.Common.{◌≡◌, ℕ, ◌+◌, ◌-◌, ◌*◌, ◌<◌, ◌≤◌, max, cond, ◌&&◌, ltb, List, length, get_or, Some, None, Option, sym, refl, ap, ◌∙◌, inl, inr, arith}
use Rattle.std.specs.Coded.{le_prop}
use Rattle.std.proofs.Props.{props}
use mathlib.Core.Logic.{∥∥₁_elim}
use Rattle.std.proofs.lemmas.Bool.{cases_Bool, cases_lt, and_parts, and_from, lt-ltb, ltb-true, cond-true, cond-false, cond_both}
use Rattle.model.specs.declared.intervals.Interval.{Interval}
use Rattle.model.specs.Sheets.{Sheet, Sound, count, entry, rows_max}
use Rattle.model.specs.Energy.{Candidate, NegativeSlack, ForcedEnd, energy, lack, ceiling}
use Rattle.model.specs.Shift.{NegativeCandidate}
use Rattle.shift.specs.Meaning.{from_to, no_later?, sooner}
use Rattle.shift.proofs.Energies.{lack_by_energy}
use Rattle.shift.proofs.Listed.{no_later_true, no_later_on}
use Rattle.shift_rule.specs.declared.pass.Survey.{Survey}
use Rattle.shift_rule.specs.Forced.{lack_beside, start_after}
use Rattle.shift_rule.specs.Leeways.{leeway, Enough}
use Rattle.shift_rule.specs.Found.{start_in, Reached, Right, LedBy, Accounted, Grows}
use Rattle.shift_rule.proofs.Leeway.{stays_released}

-- ---- the first interval

led_on : (i : Interval) (o : Option Interval) (t1 t2 : ℕ) → LedBy o t1 t2 → LedBy (sooner i o) t1 t2
led_on i None t1 t2 h = absurd h
led_on i (Some j) t1 t2 h =
    cond_both (no_later? i j) i j (λ v. LedBy (Some v) t1 t2) (λ e. no_later_on i j (from_to t1 t2) (no_later_true i j e) h) (λ e. h)

-- what holds of both holds of the first
sooner_has : (P : Interval → Type 0) (i : Interval) (o : Option Interval) → P i → ((j : Interval) → o ≡ Some j → P j) →
    (v : Interval) → sooner i o ≡ Some v → P v
sooner_has P i None here there v e = let same : i ≡ v = cc in rw same at here
sooner_has P i (Some j) here there v e =
    let same : cond (no_later? i j) i j ≡ v = cc in
    rw same at (cond_both (no_later? i j) i j P (λ _. here) (λ _. there j refl))

-- every start that was found is no sooner than the release
pub released : (s : Sheet) (v : Survey) → ∥ Right s v ∥₁ → (k : ℕ) → k < count s → (entry s k).release ≤ start_in v k
released s v right k l = ∥∥₁_elim right le_prop (λ r. (r.starts k l).released)

pub whole : (s : Sheet) (v : Survey) → ∥ Right s v ∥₁ → length v.starts ≡ rows_max
whole s v right = ∥∥₁_elim right (hlevel props) (λ r. r.places)

module _ (s : Sheet) (v : Survey) (t1 t2 : ℕ) (c : Candidate s t1 t2) where
  -- ---- negative slack
  module _ (o : Option Interval) (is-sooner : o ≡ sooner (from_to t1 t2) v.first) (over : NegativeSlack s t1 t2) where
    abbrev led : Survey
    led = record { first = o; starts = v.starts }

    pub sooner_right : Right s v → Right s led
    sooner_right right =
        record {
          negative = λ i e. sooner_has (λ i. NegativeCandidate s i.t1 i.t2) (from_to t1 t2) v.first
              (record { candidate = c; negative = over }) right.negative i (sym is-sooner ∙ e);
          starts = right.starts;
          places = right.places;
        }

    pub sooner_grows : Grows (count s) v led
    sooner_grows =
        record {
          first = λ u1 u2 h. rw is-sooner (led_on (from_to t1 t2) v.first u1 u2 h);
          starts = λ k l. omega arith;
        }

  -- ---- slack that is not negative
  module _ (slack : ℕ) (under : energy s t1 t2 ≤ s.capacity * (t2 - t1)) (is : slack ≡ s.capacity * (t2 - t1) - energy s t1 t2) where
    same_lack : (k : ℕ) → k < count s → lack_beside (entry s k) t1 t2 slack ≡ lack s k t1 t2
    same_lack k l = omega (arith, lack_by_energy s k t1 t2 l under)

    after_forced : (k : ℕ) → k < count s → t2 < (entry s k).deadline → 0 < lack s k t1 t2 →
        start_after (entry s k) t1 t2 slack ≡ (t2 + ceiling (lack s k t1 t2) (entry s k).demand) - (entry s k).duration
    after_forced k l before short =
        let e = entry s k in
        let some : 0 < lack_beside e t1 t2 slack = omega (arith, same_lack k l) in
        cond-true (ltb t2 e.deadline && ltb 0 (lack_beside e t1 t2 slack)) _ _
        (and_from _ _ (lt-ltb t2 e.deadline before) (lt-ltb 0 (lack_beside e t1 t2 slack) some))
        ∙ ap (λ (x : ℕ). (t2 + ceiling x e.demand) - e.duration) (same_lack k l)

    -- a start that is not 0 is forced
    forced_after : (k n : ℕ) → k < count s → n ≡ start_after (entry s k) t1 t2 slack → 0 < n →
        (end : ℕ) × ForcedEnd s k end × (n ≡ end - (entry s k).duration)
    forced_after k n l e some =
        let x = entry s k in
        elim (cases_Bool (ltb t2 x.deadline && ltb 0 (lack_beside x t1 t2 slack))) [
          | inr no' ↦
              let z = e ∙ cond-false (ltb t2 x.deadline && ltb 0 (lack_beside x t1 t2 slack)) ((t2 + ceiling (lack_beside x t1 t2 slack) x.demand) - x.duration) 0 no' in
              absurd (omega arith)
          | inl yes' ↦
              let (a, b) = and_parts (ltb t2 x.deadline) (ltb 0 (lack_beside x t1 t2 slack)) yes' in
              let before : t2 < x.deadline = ltb-true _ _ a in
              let some' = ltb-true 0 (lack_beside x t1 t2 slack) b in
              let short : 0 < lack s k t1 t2 = omega (arith, same_lack k l) in (
                t2 + ceiling (lack s k t1 t2) x.demand,
                record { t1 = t1; t2 = t2; candidate = c; closes = before; short = short; past = refl },
                e ∙ after_forced k l before short,
              )
        ]

    -- slack that leaves no leeway
    pub wide_accounted : Sound s → ((k : ℕ) → k < count s → (entry s k).release ≤ start_in v k) → (reach : ℕ) → Enough s t2 reach → reach ≤ slack → Accounted s v t1 t2
    wide_accounted sound starts reach enough wide =
        record {
          negative = λ _ over. absurd (omega arith);
          forced = λ _ _ k l before short.
              let fine = sound.each k l in
              let less : leeway (entry s k) t2 ≤ slack = omega (arith, enough k l) in
              omega (
                arith,
                stays_released (entry s k) fine.room t1 t2 slack fine.asks less,
                after_forced k l before short,
                starts k l,
              );
        }

    module _ (starts : List ℕ) (many : length starts ≡ rows_max)
        (raised : (k : ℕ) → k < count s → get_or starts k 0 ≡ max (start_in v k) (start_after (entry s k) t1 t2 slack)) where
      abbrev up : Survey
      up = record { first = v.first; starts = starts }

      reached_more : (k : ℕ) → k < count s → Reached s k (start_in v k) → Reached s k (get_or starts k 0)
      reached_more k l old =
          let is' = raised k l in
          record {
            released = omega arith;
            forced = elim (cases_lt (start_in v k) (start_after (entry s k) t1 t2 slack)) [
              | inl more ↦ inr (forced_after k (get_or starts k 0) l (omega arith) (omega arith))
              | inr less ↦
                  let same : get_or starts k 0 ≡ start_in v k = omega arith in
                  elim old.forced [ inl e ↦ inl (same ∙ e) | inr (end, f, e) ↦ inr (end, f, same ∙ e) ]
            ];
          }

      pub raised_right : Right s v → Right s up
      raised_right right = record { negative = right.negative; starts = λ k l. reached_more k l (right.starts k l); places = many }

      pub raised_grows : Grows (count s) v up
      raised_grows = record { first = λ u1 u2 h. h; starts = λ k l. omega (arith, raised k l) }

      pub raised_accounted : Accounted s up t1 t2
      raised_accounted =
          record {
            negative = λ _ over. absurd (omega arith);
            forced = λ _ _ k l before short. omega (arith, raised k l, after_forced k l before short);
          }
