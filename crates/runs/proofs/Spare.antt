-- Narrowing leaves fewer slots to spare.
use Rattle.std.proofs.Common.{◌≡◌, ℕ, zero, suc, ◌-◌, ◌*◌, ◌<◌, ◌≤◌, length, sym, refl, ap, inl, inr, mul-le-mul_left, arith}
use Rattle.std.proofs.lemmas.Bool.{cases_eq}
use Rattle.model.specs.declared.rows.Row.{Row}
use Rattle.model.specs.declared.windows.Window.{Window}
use Rattle.model.specs.Limits.{row_at}
use Rattle.model.specs.Rules.{Meaning}
use Rattle.model.specs.Sheets.{horizon}
use Rattle.model.specs.Total.{total}
use Rattle.model.proofs.Bounds.{total_most}
use Rattle.model.proofs.Sums.{total_le}
use Rattle.board.specs.Calls.{Bookings, SoundBookings}
use Rattle.board.specs.declared.answers.Effect.TheVariants.{Narrowed, Quiet}
use Rattle.runs.specs.Applying.{at_present, figures, NoneShort, SameWindow, Writes, Applies, narrows, rests}
use Rattle.runs.specs.Sweeping.{spare_in, spare}
use Rattle.runs.proofs.Narrowing.{Inside, insides}

-- a sum is less where no summand is more and one is less
pub total_less : (n : ℕ) (f g : ℕ → ℕ) → ((i : ℕ) → i < n → f i ≤ g i) → (k : ℕ) → k < n → f k < g k → total n f < total n g
unfolding total
total_less zero f g h k l less = absurd (omega arith)
total_less (suc n) f g h k l less =
    elim (cases_eq k n) [
      | inl e ↦
          let last : f n < g n = rw (sym e) less in
          omega (arith, total_le n f g (λ i b. h i (omega arith)))
      | inr other ↦ omega (arith, total_less n f g (λ i b. h i (omega arith)) k (omega arith) less, h n (omega arith))
    ]

-- the two windows are the same, or they differ
pub same_window? : (v w : Window) → Dec (v ≡ w)
same_window? v w =
    elim (cases_eq v.release w.release) [
      | inr other ↦ no (λ e. other (ap (λ (x : Window). x.release) e))
      | inl er ↦ elim (cases_eq v.deadline w.deadline) [
        | inr other ↦ no (λ e. other (ap (λ (x : Window). x.deadline) e))
        | inl ed ↦ yes (λ z. record { release = er z; deadline = ed z })
      ]
    ]

-- a row whose window changes has less to spare
narrower : (row : Row) (w : Window) → Inside row w → ¬ (w ≡ row.present) → w.deadline - w.release - row.duration < spare_in row
narrower row w i changed =
    elim (cases_eq w.release row.present.release) [
      | inr other ↦ omega arith
      | inl er ↦ elim (cases_eq w.deadline row.present.deadline) [
        | inr other ↦ omega arith
        | inl ed ↦ absurd (changed (λ z. record { release = er z; deadline = ed z }))
      ]
    ]

pub narrowed_spare : (rule : Meaning) (b : Bookings) → SoundBookings b → (c : Bookings) → Writes (figures rule (at_present b)) b c → NoneShort rule b →
    (k : ℕ) → k < length b.rows → ¬ SameWindow rule b k → spare c < spare b
narrowed_spare rule b sound c w wide k l changed =
    rw w.places
    (total_less (length b.rows) _ _
    (λ i h. let here = insides rule b sound wide i h in rw (w.each i h) (omega arith)) k l
    (rw (w.each k l) (narrower (row_at b.rows k) (figures rule (at_present b) k) (insides rule b sound wide k l) changed)))

-- an application that narrows leaves less to spare
pub narrowed_less : (rule : Meaning) (b c : Bookings) → SoundBookings b → Applies rule b Narrowed c → spare c < spare b
narrowed_less rule b c sound (narrows none wide k l changed after w) = narrowed_spare rule b sound c w wide k l changed

pub quiet_same : (rule : Meaning) (b c : Bookings) → Applies rule b Quiet c → c ≡ b
quiet_same rule b c (rests none wide same) = refl

-- 64 rows of at most 4032 slots
pub spare_small : (b : Bookings) → SoundBookings b → spare b ≤ 258048
spare_small b sound =
    let each : spare b ≤ horizon * length b.rows =
    total_most (length b.rows) horizon _ (λ k l. let window = sound.sound.windowed k l in omega arith) in
    omega (arith, mul-le-mul_left horizon sound.few)
