-- Every application of a rule has an answer, and one only.
use Rattle.std.proofs.Common.{◌≡◌, ℕ, zero, suc, ◌+◌, ◌<◌, List, [], ◌∷◌, length, refl, ap, inl, inr, arith}
use native.Mathlib.Decide.{dec_lt}
use Rattle.std.proofs.lemmas.Bool.{cases_order}
use Rattle.model.specs.declared.intervals.Interval.{Interval}
use Rattle.model.specs.declared.rows.Row.{Row}
use Rattle.model.specs.declared.windows.Window.{Window}
use Rattle.model.specs.Changes.{narrowed}
use Rattle.model.specs.Limits.{row_at}
use Rattle.model.specs.Rules.{Meaning}
use Rattle.model.specs.Sheets.{entry}
use Rattle.model.proofs.Search.{least}
use Rattle.board.specs.declared.answers.Effect.{Effect}
use Rattle.board.specs.declared.answers.Effect.TheVariants.{Overfull, Squeezed, Narrowed, Quiet}
use Rattle.board.specs.Calls.{Bookings}
use Rattle.runs.specs.Applying.{at_present, figures, Short, SameWindow, Writes, Applies, finds, squeezes, narrows, rests}
use Rattle.runs.proofs.RuleFigures.{some_or_none}
use Rattle.runs.proofs.Narrowing.{writes_unique}
use Rattle.runs.proofs.Spare.{same_window?}

-- ---- what is written

written : (ℕ → Window) → List Row → List Row
written w [] = []
written w (row ∷ rows) = narrowed (w 0) row ∷ written (λ k. w (suc k)) rows

written_length : (w : ℕ → Window) (rows : List Row) → length (written w rows) ≡ length rows
unfolding written
written_length w [] = refl
written_length w (row ∷ rows) = ap suc (written_length (λ k. w (suc k)) rows)

written_at : (w : ℕ → Window) (rows : List Row) (k : ℕ) → k < length rows → row_at (written w rows) k ≡ narrowed (w k) (row_at rows k)
unfolding written
written_at w [] k l = absurd (omega arith)
written_at w (row ∷ rows) zero l = refl
written_at w (row ∷ rows) (suc k) l = written_at (λ j. w (suc j)) rows k (omega arith)

pub writes_once : (w : ℕ → Window) (b : Bookings) → (c : Bookings) × Writes w b c
writes_once w b = (
  record { capacity = b.capacity; rows = written w b.rows },
  record { capacity = refl; places = written_length w b.rows; each = written_at w b.rows },
)

-- ---- every application has an answer

module _ (rule : Meaning) (b : Bookings) where
  short? : (k : ℕ) → Dec (Short rule (at_present b) k)
  short? k = dec_lt (figures rule (at_present b) k).deadline ((figures rule (at_present b) k).release + (entry (at_present b) k).duration)

  changed? : (k : ℕ) → Dec (¬ SameWindow rule b k)
  changed? k = elim (same_window? (figures rule (at_present b) k) (row_at b.rows k).present) [ yes e ↦ no (λ x. x e) | no x ↦ yes x ]

  stays : (k : ℕ) → ¬ ¬ SameWindow rule b k → SameWindow rule b k
  stays k h = elim (same_window? (figures rule (at_present b) k) (row_at b.rows k).present) [ yes e ↦ e | no x ↦ absurd (h x) ]

  pub applies_once : (e : Effect Interval) × (c : Bookings) × Applies rule b e c
  applies_once =
      elim (some_or_none (rule.evidence (at_present b))) [
        | inl (i, ev) ↦ (Overfull i, b, finds i ev)
        | inr none ↦ elim (least (Short rule (at_present b)) short? (length b.rows)) [
          | inl (k, l, short, first) ↦ (Squeezed k, b, squeezes none k l short first)
          | inr wide ↦ elim (least (λ k. ¬ SameWindow rule b k) changed? (length b.rows)) [
            | inl (k, l, changed, first) ↦
                let (c, w) = writes_once (figures rule (at_present b)) b in
                (Narrowed, c, narrows none wide k l changed c w)
            | inr same ↦ (Quiet, b, rests none wide (λ k l. stays k (same k l)))
          ]
        ]
      ]

-- ---- one answer only

pub applies_unique : (rule : Meaning) (b : Bookings) {e f : Effect Interval} {c d : Bookings} → Applies rule b e c → Applies rule b f d → (e ≡ f) × (c ≡ d)
applies_unique rule b (finds i ev) (finds i' ev') = (cc, refl)
applies_unique rule b (finds i ev) (squeezes none' k' l' short' first') = let z : ◌≡◌ {A = ℕ} 0 1 = cc in absurd (omega arith)
applies_unique rule b (finds i ev) (narrows none' wide' k' l' changed' c' w') = let z : ◌≡◌ {A = ℕ} 0 1 = cc in absurd (omega arith)
applies_unique rule b (finds i ev) (rests none' wide' same') = let z : ◌≡◌ {A = ℕ} 0 1 = cc in absurd (omega arith)
applies_unique rule b (squeezes none k l short first) (finds i' ev') = let z : ◌≡◌ {A = ℕ} 0 1 = cc in absurd (omega arith)
applies_unique rule b (squeezes none k l short first) (squeezes none' k' l' short' first') =
    let e : k ≡ k' =
    elim (cases_order k k') [ inl e ↦ e | inr (inl less) ↦ absurd (first' k less short) | inr (inr less) ↦ absurd (first k' less short') ] in
    (ap Squeezed e, refl)
applies_unique rule b (squeezes none k l short first) (narrows none' wide' k' l' changed' c' w') = absurd (wide' k l short)
applies_unique rule b (squeezes none k l short first) (rests none' wide' same') = absurd (wide' k l short)
applies_unique rule b (narrows none wide k l changed c w) (finds i' ev') = let z : ◌≡◌ {A = ℕ} 0 1 = cc in absurd (omega arith)
applies_unique rule b (narrows none wide k l changed c w) (squeezes none' k' l' short' first') = absurd (wide k' l' short')
applies_unique rule b (narrows none wide k l changed c w) (narrows none' wide' k' l' changed' c' w') = (refl, writes_unique (figures rule (at_present b)) b c c' w w')
applies_unique rule b (narrows none wide k l changed c w) (rests none' wide' same') = absurd (changed (same' k l))
applies_unique rule b (rests none wide same) (finds i' ev') = let z : ◌≡◌ {A = ℕ} 0 1 = cc in absurd (omega arith)
applies_unique rule b (rests none wide same) (squeezes none' k' l' short' first') = absurd (wide k' l' short')
applies_unique rule b (rests none wide same) (narrows none' wide' k' l' changed' c' w') = absurd (changed' (same k' l'))
applies_unique rule b (rests none wide same) (rests none' wide' same') = (refl, refl)
