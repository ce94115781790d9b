-- What one application of a lawful rule keeps, and what its answer means.
use Rattle.std.proofs.Common.{◌≡◌, ℕ, ◌<◌, length, Some, None, refl, ap, ◌∙◌, arith}
use Rattle.model.specs.declared.entries.Entry.{Entry}
use Rattle.model.specs.declared.intervals.Interval.{Interval}
use Rattle.model.specs.declared.windows.Window.{Window}
use Rattle.model.specs.Elastic.{IsE}
use Rattle.model.specs.Shift.{IsS}
use Rattle.model.specs.Rules.{Meaning, Lawful}
use Rattle.model.specs.Sheets.{Placement, Tight, count}
use Rattle.model.proofs.Mirrors.{mirror_at}
use Rattle.board.specs.declared.answers.Effect.{Effect}
use Rattle.board.specs.declared.answers.Effect.TheVariants.{Quiet}
use Rattle.board.specs.Calls.{Bookings, SoundBookings}
use Rattle.elastic.proofs.Law.{e_is_exact, settled_windows_are_tight}
use Rattle.shift.proofs.RuleS.{s_is_exact}
use Rattle.runs.specs.Applying.{as_entered, at_present, number, Applies, finds, squeezes, narrows, rests}
use Rattle.runs.specs.Sweeping.{application, GoesOn, after_narrowed, after_quiet}
use Rattle.runs.specs.Promise.{IsOverfull, told, ExactE, ExactS}
use Rattle.runs.proofs.Boards.{present_count, present_at, present_sound}
use Rattle.runs.proofs.RuleFigures.{figures_hold}
use Rattle.runs.proofs.Narrowing.{narrowed_sound, narrowed_entered, narrowed_placed}

-- What a call keeps: the limits, the windows as entered, and the placements of the present windows.
pub record Kept (b c : Bookings) : Type 0 where
  pub sound : SoundBookings c
  pub entered : as_entered c ≡ as_entered b
  pub placed : (start : ℕ → ℕ) → Placement (at_present b) start → Placement (at_present c) start

pub kept_same : (b : Bookings) → SoundBookings b → Kept b b
kept_same b sound = record { sound = sound; entered = refl; placed = λ start p. p }

pub kept_both : (a b c : Bookings) → Kept a b → Kept b c → Kept a c
kept_both a b c p q =
    record { sound = q.sound; entered = q.entered ∙ p.entered; placed = λ start x. q.placed start (p.placed start x) }

module _ (rule : Meaning) (law : Lawful rule) (b : Bookings) (sound : SoundBookings b) where
  pub applied_keeps : {e : Effect Interval} {c : Bookings} → Applies rule b e c → Kept b c
  applied_keeps (finds i ev) = kept_same b sound
  applied_keeps (squeezes none k l short first) = kept_same b sound
  applied_keeps (narrows none wide k l changed c w) =
      record {
        sound = narrowed_sound rule b sound c w wide;
        entered = narrowed_entered rule b sound c w;
        placed = narrowed_placed rule b sound c w law;
      }
  applied_keeps (rests none wide same) = kept_same b sound

  -- overfull and squeezed are answered only where there is no placement
  pub applied_honest : {e : Effect Interval} {c : Bookings} → Applies rule b e c → (start : ℕ → ℕ) → Placement (at_present b) start → GoesOn e
  applied_honest (finds i ev) start p = absurd (law.refutes (at_present b) (present_sound b sound) i ev start p)
  applied_honest (squeezes none k l short first) start p =
      let l' : k < count (at_present b) = rw (present_count b) l in
      let h = figures_hold rule law (at_present b) (present_sound b sound) start p k l' in absurd (omega arith)
  applied_honest (narrows none wide k l changed c w) start p = after_narrowed
  applied_honest (rests none wide same) start p = after_quiet

  -- overfull is answered where there is evidence, and only there
  pub overfull_if_some : {e : Effect Interval} {c : Bookings} → Applies rule b e c →
      (i : Interval) → rule.evidence (at_present b) ≡ Some i → IsOverfull e
  overfull_if_some (finds i ev) j found = told i
  overfull_if_some (squeezes none k l short first) j found = let z : ◌≡◌ {A = ℕ} 0 1 = cc in absurd (omega arith)
  overfull_if_some (narrows none wide k l changed c w) j found = let z : ◌≡◌ {A = ℕ} 0 1 = cc in absurd (omega arith)
  overfull_if_some (rests none wide same) j found = let z : ◌≡◌ {A = ℕ} 0 1 = cc in absurd (omega arith)

  pub some_if_overfull : {e : Effect Interval} {c : Bookings} → Applies rule b e c → IsOverfull e →
      (i : Interval) × (rule.evidence (at_present b) ≡ Some i)
  some_if_overfull (finds i ev) x = (i, ev)
  some_if_overfull (squeezes none k l short first) x = elim x [ ]
  some_if_overfull (narrows none wide k l changed c w) x = elim x [ ]
  some_if_overfull (rests none wide same) x = elim x [ ]

  pub none_if_else : {e : Effect Interval} {c : Bookings} → Applies rule b e c → ¬ IsOverfull e → rule.evidence (at_present b) ≡ None
  none_if_else (finds i ev) x = absurd (x (told i))
  none_if_else (squeezes none k l short first) x = none
  none_if_else (narrows none wide k l changed c w) x = none
  none_if_else (rests none wide same) x = none

  pub applied_exact_E : {e : Effect Interval} {c : Bookings} → Applies rule b e c → IsE rule → ExactE (application rule b e)
  applied_exact_E a is =
      let exact = e_is_exact rule is (at_present b) (present_sound b sound) in
      record {
        overfull = λ x. let found = some_if_overfull a x in exact.0 found.0 found.1;
        else = λ x. exact.1 (none_if_else a x);
      }

  pub applied_exact_S : {e : Effect Interval} {c : Bookings} → Applies rule b e c → IsS rule → ExactS (application rule b e)
  applied_exact_S a is =
      let exact = s_is_exact rule is (at_present b) (present_sound b sound) in
      (λ x. exact.0.0 (some_if_overfull a x), λ x. let found = exact.0.1 x in overfull_if_some a found.0 found.1)

  -- where E is quiet, elastic schedules reach both ends of every window
  pub quiet_tight : {c : Bookings} → Applies rule b Quiet c → IsE rule → Tight (at_present b)
  quiet_tight (rests none wide same) is =
      let s = at_present b in
      let good = present_sound b sound in
      settled_windows_are_tight rule is s good none
      (λ k n l e.
      let l' : k < length b.rows = rw (← present_count b) l in
      let r = ap (λ (x : Window). x.release) (same k l') in
      let at = ap (λ (x : Entry). x.release) (present_at b k l') in
      let m = ap number e in
      omega arith)
      (λ k n l e.
      let l' : k < length b.rows = rw (← present_count b) l in
      let d = ap (λ (x : Window). x.deadline) (same k l') in
      let at = ap (λ (x : Entry). x.deadline) (present_at b k l') in
      let back = ap (λ (x : Entry). x.release) (mirror_at s k l) in
      let m = ap number e in
      let here = good.each k l in
      omega arith)
