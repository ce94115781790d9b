-- Every file has one plan.
use Rattle.std.proofs.Common.{◌≡◌, ℕ, List, Ok, Err, Result, sym, refl, ap, subst, arith}
use Rattle.board.specs.Calls.{Bookings, built}
use Rattle.campaign.specs.declared.faults.Fault.{Fault}
use Rattle.campaign.specs.Loads.{Loads}
use Rattle.campaign.proofs.Decided.{some_outcome}
use Rattle.campaign.proofs.Determined.{one_outcome}
use Rattle.report.specs.Lines.{report_lines, fault_line}
use Rattle.runs.specs.Sweeping.{Sweeps}
use Rattle.runs.proofs.Swept.{sweep_ends, sweeps_unique}
use Rattle.planning.specs.Plans.{TES, Plans, planned, faulted}
use Rattle.planning.specs.Promise.{EveryFileHasOnePlan}
use Rattle.planning.proofs.Faulted.{fault_told}
use Rattle.planning.proofs.TestsEntered.{every_load_enters_the_tests}
use Rattle.planning.proofs.PromiseKept.{laws, entered_sound}
use Rattle.planning.proofs.OnAnyBoard.{planned_on}

record APlan (file : List ℕ) (before : Bookings) : Type 0 where
  text : List ℕ
  left : Bookings
  made : Plans file before text left

some_plan_of : (file : List ℕ) (before after : Bookings) (r : Result (Unit {0}) Fault) → Loads file before r after → APlan file before
some_plan_of file before after (Ok tt) loads =
    let (tests, _, e) = every_load_enters_the_tests file before after loads in
    let o = sweep_ends TES laws after (entered_sound tests after e) in
    record { text = _; left = _; made = planned after o.swept o.left loads (o.chain, o.made) }
some_plan_of file before after (Err f) loads = record { text = _; left = _; made = fault_told file before after f loads }

loaded_or_fault : (f : Fault) → ◌≡◌ {A = Result (Unit {0}) Fault} (Ok tt) (Err f) → ⊥
loaded_or_fault f e = let z : ◌≡◌ {A = ℕ} 0 1 = cc in omega arith

same_fault : (f g : Fault) → ◌≡◌ {A = Result (Unit {0}) Fault} (Err f) (Err g) → f ≡ g
same_fault f g e = cc

module _ (file : List ℕ) (before : Bookings) where
  same_plan : (t u : List ℕ) (a b : Bookings) → Plans file before t a → Plans file before u b → (t ≡ u) × (a ≡ b)
  same_plan t u a b (planned c r _ loads (chain, sweeps)) (planned d s _ loads' (chain', sweeps')) =
      let e = (one_outcome file before c d (Ok tt) (Ok tt) loads loads').1 in
      let (_, answer, board) = sweeps_unique TES sweeps (subst (λ (x : Bookings). Sweeps TES x chain' s b) (sym e) sweeps') in
      (λ z. report_lines (board z) (answer z), board)
  same_plan t u a b (planned c r _ loads sweeps) (faulted f loads') = absurd (loaded_or_fault f (one_outcome file before c before (Ok tt) (Err f) loads loads').0)
  same_plan t u a b (faulted f loads) (planned c r _ loads' sweeps) = absurd (loaded_or_fault f (one_outcome file before c before (Ok tt) (Err f) loads' loads).0)
  same_plan t u a b (faulted f loads) (faulted g loads') =
      (ap fault_line (same_fault f g (one_outcome file before before before (Err f) (Err g) loads loads').0), refl)

pub every_file_has_one_plan : EveryFileHasOnePlan
every_file_has_one_plan file =
    let (r, loaded, loads) = some_outcome file (built 1) in
    let p = some_plan_of file (built 1) loaded r loads in (
      p.text,
      λ before.
          let (after, made) = planned_on file (built 1) before p.text p.left p.made in
          (after, made, λ text after' q. same_plan file before text p.text after' after q made),
    )
