-- Bounded searches: the least number, and the first interval.
use Rattle.std.proofs.Common.{◌≡◌, ℕ, zero, suc, ◌<◌, ◌≤◌, ◌⊎◌, Some, None, Option, sym, refl, ap, inl, inr, arith}
use Rattle.std.proofs.lemmas.Bool.{cases_order, cases_lt}
use Rattle.model.specs.declared.intervals.Interval.{Interval}
use Rattle.model.specs.Rules.{Named, NoLater}
use Rattle.model.proofs.Sums.{below_suc}

-- The least number below n with P, or there is none.
abbrev pub Least : (ℕ → Type 0) → ℕ → Type 0
Least P n = ((m : ℕ) × (m < n) × P m × ((j : ℕ) → j < m → ¬ P j)) ⊎ ((j : ℕ) → j < n → ¬ P j)

pub least : (P : ℕ → Type 0) → ((j : ℕ) → Dec (P j)) → (n : ℕ) → Least P n
least P dec zero = inr (λ j l p. omega arith)
least P dec (suc n) =
    elim (least P dec n) [
      | inl (m, l, p, low) ↦ inl (m, omega arith, p, low)
      | inr none ↦ elim (dec n) [ yes p ↦ inl (n, omega arith, p, none) | no np ↦ inr (below_suc (λ j. ¬ P j) n none np) ]
    ]

-- Where a number below n has P, some least one has.
module _ (P : ℕ → ℕ → Type 0) (dec : (t1 t2 : ℕ) → Dec (P t1 t2)) (n : ℕ) where
  abbrev Here : ℕ → Type 0
  Here t1 = (t2 : ℕ) × (t2 < n) × P t1 t2 × ((j : ℕ) → j < t2 → ¬ P t1 j)

  here : (t1 : ℕ) → Dec (Here t1)
  here t1 = elim (least (P t1) (dec t1) n) [ inl h ↦ yes h | inr none ↦ no (λ h. none h.0 h.1 h.2) ]

  found_here : (t1 t2 : ℕ) → t2 < n → P t1 t2 → Here t1
  found_here t1 t2 l p = elim (least (P t1) (dec t1) n) [ inl h ↦ h | inr none ↦ absurd (none t2 l p) ]

  abbrev pub Below : ℕ → ℕ → Type 0
  Below t1 t2 = (t1 < n) × (t2 < n) × P t1 t2

  pub first_interval : (o : Option Interval) × Named Below o
  first_interval =
      elim (least Here here n) [
        | inl (t1, l1, h, low1) ↦ (
          Some (record { t1 = t1; t2 = h.0 }),
          (
            (l1, h.1, h.2),
            λ u1 u2 q.
                elim (cases_order u1 t1) [
                  | inl e ↦
                      inr (sym e, elim (cases_lt u2 h.0) [ inl l ↦ absurd (h.3 u2 l (rw e at q.2)) | inr l ↦ l ])
                  | inr (inl l) ↦ absurd (low1 u1 l (found_here u1 u2 q.1 q.2))
                  | inr (inr l) ↦ inl l
                ],
          ),
        )
        | inr none ↦ (None, λ u1 u2 q. none u1 q.0 (found_here u1 u2 q.1 q.2))
      ]

pub named_same : (P Q : ℕ → ℕ → Type 0) → ((t1 t2 : ℕ) → P t1 t2 → Q t1 t2) → ((t1 t2 : ℕ) → Q t1 t2 → P t1 t2) → (o : Option Interval) → Named P o → Named Q o
named_same P Q to back (Some i) f = (to i.t1 i.t2 f.0, λ t1 t2 q. f.1 t1 t2 (back t1 t2 q))
named_same P Q to back None f = λ t1 t2 q. f t1 t2 (back t1 t2 q)

-- The first interval is one only: two answers that are first are the same.
pub named_unique : (P : ℕ → ℕ → Type 0) (o o' : Option Interval) → Named P o → Named P o' → o ≡ o'
named_unique P (Some i) (Some j) f g =
    let a = f.1 j.t1 j.t2 g.0 in
    let b = g.1 i.t1 i.t2 f.0 in
    ap Some (same a b)
  where
    same : NoLater i j.t1 j.t2 → NoLater j i.t1 i.t2 → i ≡ j
    same (inl l) (inl m) = absurd (omega arith)
    same (inl l) (inr m) = absurd (omega arith)
    same (inr l) (inl m) = absurd (omega arith)
    same (inr l) (inr m) = let e1 : i.t1 ≡ j.t1 = omega arith in let e2 : i.t2 ≡ j.t2 = omega arith in (λ z. record { t1 = e1 z; t2 = e2 z })
named_unique P (Some i) None f g = absurd (g i.t1 i.t2 f.0)
named_unique P None (Some j) f g = absurd (f j.t1 j.t2 g.0)
named_unique P None None f g = refl

-- ---- one interval after another, for a loop that keeps the first

-- P, or the interval a, b.
abbrev pub Or : (ℕ → ℕ → Type 0) → ℕ → ℕ → ℕ → ℕ → Type 0
Or P a b t1 t2 = P t1 t2 ⊎ ((t1 ≡ a) × (t2 ≡ b))

module _ (P : ℕ → ℕ → Type 0) (a b : ℕ) where
  -- the first one found
  pub named_alone : Named P None → Named (Or P a b) (Some (record { t1 = a; t2 = b }))
  named_alone none = (inr (refl, refl), λ t1 t2 q. elim q [ inl p ↦ absurd (none t1 t2 p) | inr (e1, e2) ↦ inr (sym e1, omega arith) ])

  -- one that comes before what was found
  pub named_before : (i : Interval) → Named P (Some i) → (a < i.t1) ⊎ ((a ≡ i.t1) × (b ≤ i.t2)) → Named (Or P a b) (Some (record { t1 = a; t2 = b }))
  named_before i named sooner = (
    inr (refl, refl),
    λ t1 t2 q. elim q [
      | inl p ↦ after t1 t2 (named.1 t1 t2 p) sooner
      | inr (e1, e2) ↦ inr (sym e1, omega arith)
    ],
  )
    where
      after : (t1 t2 : ℕ) → NoLater i t1 t2 → (a < i.t1) ⊎ ((a ≡ i.t1) × (b ≤ i.t2)) → NoLater (record { t1 = a; t2 = b }) t1 t2
      after t1 t2 (inl l) (inl m) = inl (omega arith)
      after t1 t2 (inl l) (inr m) = inl (omega arith)
      after t1 t2 (inr l) (inl m) = inl (omega arith)
      after t1 t2 (inr l) (inr m) = inr (omega arith, omega arith)

  -- one that comes no sooner
  pub named_after : (i : Interval) → Named P (Some i) → NoLater i a b → Named (Or P a b) (Some i)
  named_after i named later = (
    inl named.0,
    λ t1 t2 q. elim q [ inl p ↦ named.1 t1 t2 p | inr (e1, e2) ↦ rw (e1, e2) later ],
  )
