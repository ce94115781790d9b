-- A sweep changes present windows, and nothing else.
use Rattle.std.proofs.Common.{ℕ, ◌<◌, List, length, sym, refl, ap, ◌∙◌, arith}
use Rattle.model.specs.declared.intervals.Interval.{Interval}
use Rattle.model.specs.declared.rows.Row.{Row}
use Rattle.model.specs.declared.windows.Window.{Window}
use Rattle.model.specs.Changes.{narrowed}
use Rattle.model.specs.Limits.{row_at}
use Rattle.model.specs.Rules.{Meaning}
use Rattle.board.specs.declared.answers.Effect.{Effect}
use Rattle.board.specs.declared.answers.Swept.{Swept}
use Rattle.board.specs.declared.answers.Verdict.{Verdict}
use Rattle.board.specs.Calls.{Bookings}
use Rattle.runs.specs.Applying.{Writes, Applies, finds, squeezes, narrows, rests}
use Rattle.runs.specs.Sweeping.{Application, Passes, done, then, Breaks, here, after, Sweeps, settles, again, fails}

-- The rows of a board in the present windows that another leaves them.
abbrev pub SameRows : Bookings → Bookings → Type 0
SameRows b c = Writes (λ k. (row_at c.rows k).present) b c

same_here : (b : Bookings) → SameRows b b
same_here b = record { capacity = refl; places = refl; each = λ k l. refl }

same_both : (b c d : Bookings) → SameRows b c → SameRows c d → SameRows b d
same_both b c d x y =
    record {
      capacity = y.capacity ∙ x.capacity;
      places = y.places ∙ x.places;
      each = λ k l.
          let l' : k < length c.rows = omega (arith, x.places) in
          y.each k l' ∙ ap (λ (row : Row). narrowed (row_at d.rows k).present row) (x.each k l);
    }

-- what is written is what is left
same_written : (windows : ℕ → Window) (b c : Bookings) → Writes windows b c → SameRows b c
same_written windows b c w =
    record {
      capacity = w.capacity;
      places = w.places;
      each = λ k l.
          w.each k l ∙ ap (λ (v : Window). narrowed v (row_at b.rows k)) (sym (ap (λ (row : Row). row.present) (w.each k l)));
    }

applied_same : (rule : Meaning) (b c : Bookings) {e : Effect Interval} → Applies rule b e c → SameRows b c
applied_same rule b c (finds i found) = same_here b
applied_same rule b c (squeezes none k l short first) = same_here b
applied_same rule b c (narrows none wide k l changed _ w) = same_written _ b c w
applied_same rule b c (rests none wide same) = same_here b

passes_same : {rules : List Meaning} {b c : Bookings} {chain : List Application} → Passes rules b chain c → SameRows b c
passes_same {b = b} done = same_here b
passes_same (then {rule} {b = b} {b' = b'} {b'' = b''} a on more) = same_both b b' b'' (applied_same rule b b' a) (passes_same more)

breaks_same : {rules : List Meaning} {b c : Bookings} {chain : List Application} {v : Verdict} → Breaks rules b chain v c → SameRows b c
breaks_same (here {rule} {b = b} {b' = b'} a ended) = applied_same rule b b' a
breaks_same (after {rule} {b = b} {b' = b'} {b'' = b''} a on more) = same_both b b' b'' (applied_same rule b b' a) (breaks_same more)

pub swept_same : {rules : List Meaning} {b c : Bookings} {chain : List Application} {s : Swept} → Sweeps rules b chain s c → SameRows b c
swept_same (settles p quiet) = passes_same p
swept_same (again {b} {b'} {b''} p changed more) = same_both b b' b'' (passes_same p) (swept_same more)
swept_same (fails p) = breaks_same p
