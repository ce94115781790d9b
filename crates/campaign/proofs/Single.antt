-- What is read at a spot, and what a call on the board makes, is one thing only.
use Rattle.std.proofs.Common.{◌≡◌, ℕ, ◌≤◌, cond, eqb, List, Ok, Err, sym, refl, ap, ◌∙◌, arith}
use Rattle.board.specs.declared.bookings.Test.{Test}
use Rattle.board.specs.declared.refusals.Refusal.{Refusal}
use Rattle.board.specs.declared.refusals.Refusal.TheVariants.{Capacity, Profile, Bearer, Duration, Demand, Window, Taken, Full, Unknown, Letter}
use Rattle.board.specs.Refusals.{number_of}
use Rattle.board.specs.Calls.{Bookings, Answer, Builds, makes, too_small, too_large, Enters, adds, refuses}
use Rattle.records.specs.declared.faults.Misread.{Misread}
use Rattle.records.specs.declared.records.Fields.{Fields}
use Rattle.records.specs.Records.{Spot, Reading, note, test}

-- ---- readings

pub same_read : {A : Type 0} (r : Reading A) (x y : A) (p q : Spot) → r ≡ Ok (x, p) → r ≡ Ok (y, q) → (x ≡ y) × (p ≡ q)
same_read {A} r x y p q h k = let e : ◌≡◌ {A = A × Spot} (x, p) (y, q) = cc in (ap (λ z. z.0) e, ap (λ z. z.1) e)

pub same_fault : {A : Type 0} (r : Reading A) (e f : Misread) → r ≡ Err e → r ≡ Err f → e ≡ f
same_fault r e f h k = cc

pub read_or_fault : {A : Type 0} (r : Reading A) (x : A × Spot) (e : Misread) → r ≡ Ok x → r ≡ Err e → ⊥
read_or_fault r x e h k = let z : ◌≡◌ {A = ℕ} 0 1 = cc in omega arith

pub note_or_test : (text label : List ℕ) (fields : Fields) (i j : ℕ) → note text i ≡ test fields label j → ⊥
note_or_test text label fields i j h = let z : ◌≡◌ {A = ℕ} 0 1 = cc in omega arith

pub same_fields : (f g : Fields) (l m : List ℕ) (i j : ℕ) → test f l i ≡ test g m j → f ≡ g
same_fields f g l m i j h = cc

-- ---- refusals

-- The refusal of a number.
of_number : ℕ → Refusal
of_number n =
    cond (eqb n 1) Capacity (cond (eqb n 2) Profile (cond (eqb n 3) Bearer (cond (eqb n 4) Duration (cond (eqb n 5) Demand
    (cond (eqb n 6) Window (cond (eqb n 7) Taken (cond (eqb n 8) Full (cond (eqb n 9) Unknown Letter))))))))

of_number_of : (w : Refusal) → of_number (number_of w) ≡ w
unfolding of_number
of_number_of Capacity = refl
of_number_of Profile = refl
of_number_of Bearer = refl
of_number_of Duration = refl
of_number_of Demand = refl
of_number_of Window = refl
of_number_of Taken = refl
of_number_of Full = refl
of_number_of Unknown = refl
of_number_of Letter = refl

same_refusal : (v w : Refusal) → number_of v ≤ number_of w → number_of w ≤ number_of v → v ≡ w
same_refusal v w h k =
    let e : number_of v ≡ number_of w = omega arith in
    sym (of_number_of v) ∙ ap of_number e ∙ of_number_of w

-- ---- calls

pub same_build : (b c d : Bookings) (n : ℕ) (r s : Answer) → Builds b n r c → Builds b n s d → (r ≡ s) × (c ≡ d)
same_build b c d n r s (makes l h) (makes m k) = (refl, refl)
same_build b c d n r s (makes l h) (too_small k) = absurd (omega arith)
same_build b c d n r s (makes l h) (too_large k) = absurd (omega arith)
same_build b c d n r s (too_small h) (makes m k) = absurd (omega arith)
same_build b c d n r s (too_small h) (too_small k) = (refl, refl)
same_build b c d n r s (too_small h) (too_large k) = absurd (omega arith)
same_build b c d n r s (too_large h) (makes m k) = absurd (omega arith)
same_build b c d n r s (too_large h) (too_small k) = absurd (omega arith)
same_build b c d n r s (too_large h) (too_large k) = (refl, refl)

pub same_enter : (b c d : Bookings) (t : Test) (r s : Answer) → Enters b t r c → Enters b t s d → (r ≡ s) × (c ≡ d)
same_enter b c d t r s (adds n) (adds m) = (refl, refl)
same_enter b c d t r s (adds n) (refuses w f) = absurd (n w f.wrong)
same_enter b c d t r s (refuses w f) (adds n) = absurd (n w f.wrong)
same_enter b c d t r s (refuses v f) (refuses w g) = (ap Err (same_refusal v w (f.least w g.wrong) (g.least v f.wrong)), refl)
