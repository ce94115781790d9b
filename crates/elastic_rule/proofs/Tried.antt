-- One pair of a release and a deadline after another.
use Rattle.std.proofs.Common.{◌≡◌, ℕ, ◌+◌, ◌<◌, ◌≤◌, true, false, ◌&&◌, ◌||◌, eqb, ltb, ◌⊎◌, Some, None, Option, refl, inl, inr, arith}
use Rattle.std.proofs.lemmas.Bool.{cases_lt, cases_eq, cond_both}
use Rattle.std.proofs.lemmas.Bool.Decides.{nat_tests}
use Rattle.model.specs.declared.intervals.Interval.{Interval}
use Rattle.model.specs.Sheets.{Sheet, count, entry}
use Rattle.model.specs.Energy.{Overfull}
use Rattle.model.specs.Rules.{Named, NoLater}
use Rattle.model.proofs.Search.{Or, named_alone, named_before, named_after, named_same}
use Rattle.elastic_rule.specs.Tried.{OverfullBetween, Tried, sooner}

-- the first of what was found and of one interval more is the first of all
is_earlier : (i f : Interval) → ltb i.t1 f.t1 || (eqb i.t1 f.t1 && ltb i.t2 f.t2) ≡ true → (i.t1 < f.t1) ⊎ ((i.t1 ≡ f.t1) × (i.t2 ≤ f.t2))
is_earlier i f e =
    elim (cases_lt i.t1 f.t1) [
      | inl l ↦ inl l
      | inr l ↦ inr (grind (arith, nat_tests), grind (arith, nat_tests))
    ]

not_earlier : (i f : Interval) → ltb i.t1 f.t1 || (eqb i.t1 f.t1 && ltb i.t2 f.t2) ≡ false → NoLater f i.t1 i.t2
not_earlier i f e =
    elim (cases_lt f.t1 i.t1) [
      | inl l ↦ inl l
      | inr l ↦ inr (grind (arith, nat_tests), grind (arith, nat_tests))
    ]

pub named_sooner : (P : ℕ → ℕ → Type 0) (i : Interval) (o : Option Interval) → Named P o → Named (Or P i.t1 i.t2) (Some (sooner o i))
named_sooner P i None none = named_alone P i.t1 i.t2 none
named_sooner P i (Some f) named =
    cond_both (ltb i.t1 f.t1 || (eqb i.t1 f.t1 && ltb i.t2 f.t2)) i f (λ x. Named (Or P i.t1 i.t2) (Some x))
    (λ e. named_before P i.t1 i.t2 f named (is_earlier i f e))
    (λ e. named_after P i.t1 i.t2 f named (not_earlier i f e))

module _ (s : Sheet) where
  module _ (n m : ℕ) (ln : n < count s) (lm : m < count s) (o : Option Interval) (named : Named (Tried s n m) o) where
    -- one pair more, which is overfull
    pub tried_over : (i : Interval) → OverfullBetween s m n i.t1 i.t2 → Named (Tried s n (m + 1)) (Some (sooner o i))
    tried_over i over = named_same (Or (Tried s n m) i.t1 i.t2) (Tried s n (m + 1)) to back (Some (sooner o i)) (named_sooner (Tried s n m) i o named)
      where
        to : (t1 t2 : ℕ) → Or (Tried s n m) i.t1 i.t2 t1 t2 → Tried s n (m + 1) t1 t2
        to t1 t2 (inl t) =
            record {
              i = t.i;
              j = t.j;
              opens = t.opens;
              closes = t.closes;
              tried = elim t.tried [ inl l ↦ inl l | inr (e, l) ↦ inr (e, omega arith) ];
              between = t.between;
            }
        to t1 t2 (inr (e1, e2)) = rw (e1, e2) (record { i = m; j = n; opens = lm; closes = ln; tried = inr (refl, omega arith); between = over })

        back : (t1 t2 : ℕ) → Tried s n (m + 1) t1 t2 → Or (Tried s n m) i.t1 i.t2 t1 t2
        back t1 t2 t = by t.tried
          where
            by : (t.j < n) ⊎ ((t.j ≡ n) × (t.i < m + 1)) → Or (Tried s n m) i.t1 i.t2 t1 t2
            by (inl l) = inl (record { i = t.i; j = t.j; opens = t.opens; closes = t.closes; tried = inl l; between = t.between })
            by (inr (e, l)) =
                elim (cases_eq t.i m) [
                  | inl same ↦
                      let r : (entry s t.i).release ≡ (entry s m).release = mathlib.Core.Path.ap (λ x. (entry s x).release) same in
                      let d : (entry s t.j).deadline ≡ (entry s n).deadline = mathlib.Core.Path.ap (λ x. (entry s x).deadline) e in
                      inr (omega (arith, t.between.release, over.release), omega (arith, t.between.deadline, over.deadline))
                  | inr other ↦ inl (record { i = t.i; j = t.j; opens = t.opens; closes = t.closes; tried = inr (e, omega arith); between = t.between })
                ]

    -- one pair more, which is not
    pub tried_fits : ((t1 t2 : ℕ) → ¬ OverfullBetween s m n t1 t2) → Named (Tried s n (m + 1)) o
    tried_fits fits = named_same (Tried s n m) (Tried s n (m + 1)) to back o named
      where
        to : (t1 t2 : ℕ) → Tried s n m t1 t2 → Tried s n (m + 1) t1 t2
        to t1 t2 t =
            record {
              i = t.i;
              j = t.j;
              opens = t.opens;
              closes = t.closes;
              tried = elim t.tried [ inl l ↦ inl l | inr (e, l) ↦ inr (e, omega arith) ];
              between = t.between;
            }

        back : (t1 t2 : ℕ) → Tried s n (m + 1) t1 t2 → Tried s n m t1 t2
        back t1 t2 t = by t.tried
          where
            by : (t.j < n) ⊎ ((t.j ≡ n) × (t.i < m + 1)) → Tried s n m t1 t2
            by (inl l) = record { i = t.i; j = t.j; opens = t.opens; closes = t.closes; tried = inl l; between = t.between }
            by (inr (e, l)) =
                elim (cases_eq t.i m) [
                  | inl same ↦ absurd (fits t1 t2 (rw (same, e) at t.between))
                  | inr other ↦ record { i = t.i; j = t.j; opens = t.opens; closes = t.closes; tried = inr (e, omega arith); between = t.between }
                ]

  -- all pairs with one deadline more
  pub tried_turn : (n : ℕ) (o : Option Interval) → Named (Tried s n (count s)) o → Named (Tried s (n + 1) 0) o
  tried_turn n o named = named_same (Tried s n (count s)) (Tried s (n + 1) 0) to back o named
    where
      to : (t1 t2 : ℕ) → Tried s n (count s) t1 t2 → Tried s (n + 1) 0 t1 t2
      to t1 t2 t =
          record {
            i = t.i;
            j = t.j;
            opens = t.opens;
            closes = t.closes;
            tried = inl (elim t.tried [ inl l ↦ omega arith | inr (e, l) ↦ omega arith ]);
            between = t.between;
          }

      back : (t1 t2 : ℕ) → Tried s (n + 1) 0 t1 t2 → Tried s n (count s) t1 t2
      back t1 t2 t =
          record {
            i = t.i;
            j = t.j;
            opens = t.opens;
            closes = t.closes;
            tried = elim (cases_lt t.j n) [
              | inl l ↦ inl l
              | inr l ↦ inr (elim t.tried [ inl h ↦ omega arith | inr h ↦ omega arith ], t.opens)
            ];
            between = t.between;
          }

  -- all pairs
  pub tried_all : (o : Option Interval) → Named (Tried s (count s) 0) o → Named (Overfull s) o
  tried_all o named = named_same (Tried s (count s) 0) (Overfull s) to back o named
    where
      to : (t1 t2 : ℕ) → Tried s (count s) 0 t1 t2 → Overfull s t1 t2
      to t1 t2 t =
          record {
            opens = (t.i, t.opens, t.between.release);
            closes = (t.j, t.closes, t.between.deadline);
            ordered = t.between.ordered;
            over = t.between.over;
          }

      back : (t1 t2 : ℕ) → Overfull s t1 t2 → Tried s (count s) 0 t1 t2
      back t1 t2 o =
          record {
            i = o.opens.0;
            j = o.closes.0;
            opens = o.opens.1;
            closes = o.closes.1;
            tried = inl o.closes.1;
            between = record { release = o.opens.2; deadline = o.closes.2; ordered = o.ordered; over = o.over };
          }
