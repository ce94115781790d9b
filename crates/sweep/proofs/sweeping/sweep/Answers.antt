-- A round that narrows goes on from the board that it left; a round that breaks off, or in which all are quiet, is the last.
use Rattle.std.proofs.Common.{[], ◌∷◌, arith}
use Rattle.std.specs.List.{AllByRecursion}
use Rattle.model.specs.Rules.{Lawful}
use Rattle.board.specs.Held.{bookings}
use Rattle.runs.proofs.OneRun.{every_list_of_calls_has_one_run}
use Rattle.runs.proofs.Resumed.{resumes_here, resumes_again, resumes_settles, resumes_fails, rounds_small}
use Rattle.runs.proofs.Rounds.{passes_less}
use Rattle.runs.proofs.Running.{every_run_keeps_its_promise}
use Rattle.sweep.proofs.sweeping.sweep.Given.{Over}
use Rattle.sweep.proofs.sweeping.sweep.Goals as goal

pub loop-passed-init : goal.loop-passed-init
loop-passed-init g c = resumes_here _ (bookings c.args.board.now) c.args.board.now.sound

pub overflow_add-passed : goal.overflow_add-passed
overflow_add-passed g c = omega (arith, rounds_small _ _ _ _ c.args.board.now.sound c.loop-passed.invariant)

pub overflow_add-result : goal.overflow_add-result
overflow_add-result g c = omega (arith, rounds_small _ _ _ _ c.args.board.now.sound c.loop-passed.invariant)

pub overflow_add-result-in-Err : goal.overflow_add-result-in-Err
overflow_add-result-in-Err g c = omega (arith, rounds_small _ _ _ _ c.args.board.now.sound c.loop-passed.invariant)

-- the three rules keep the law
laws : (g : Over) (c : goal.In-Ok-Narrowed g) →
    AllByRecursion Lawful (g.X.Rule.means c.args.x.now ∷ (g.Y.Rule.means c.args.y.now ∷ (g.Z.Rule.means c.args.z.now ∷ [])))
laws g c =
    let x = c.args.x.now in
    let y = c.args.y.now in
    let z = c.args.z.now in (
      record { proper = g.X.Rule.proper x; refutes = g.X.Rule.refutes x; never_before = g.X.Rule.bounds x },
      (
        record { proper = g.Y.Rule.proper y; refutes = g.Y.Rule.refutes y; never_before = g.Y.Rule.bounds y },
        (record { proper = g.Z.Rule.proper z; refutes = g.Z.Rule.refutes z; never_before = g.Z.Rule.bounds z }, tt),
      ),
    )

pub loop-passed-preserved : goal.loop-passed-preserved
loop-passed-preserved g c =
    let went = rw (c.in-Ok-Narrowed.is, c.in-Ok-Narrowed.field-0-is) at c.round.ensures in
    resumes_again _ (laws g c) (bookings c.args.board.now) c.loop-passed.passed (bookings c.loop-passed.board) (bookings c.round.new.board)
    went.0 c.loop-passed.invariant went.1 went.2

pub loop-passed-smaller : goal.loop-passed-smaller
loop-passed-smaller g c =
    let went = rw (c.in-Ok-Narrowed.is, c.in-Ok-Narrowed.field-0-is) at c.round.ensures in
    passes_less (laws g c) c.loop-passed.invariant.sound went.1 went.2

pub returns-in-Ok-Quiet-clause-step : goal.returns-in-Ok-Quiet-clause-step
returns-in-Ok-Quiet-clause-step g c =
    let went = rw (c.in-Ok-Quiet.is, c.in-Ok-Quiet.field-0-is) at c.round.ensures in
    resumes_settles _ (bookings c.args.board.now) c.loop-passed.passed (bookings c.loop-passed.board) (bookings c.round.new.board)
    went.0 c.loop-passed.invariant went.1 went.2

pub returns-in-Ok-Quiet-clause-promise : goal.returns-in-Ok-Quiet-clause-promise
returns-in-Ok-Quiet-clause-promise g c = (every_run_keeps_its_promise, every_list_of_calls_has_one_run)

pub returns-in-Err-clause-step : goal.returns-in-Err-clause-step
returns-in-Err-clause-step g c =
    let went = rw c.in-Err.is at c.round.ensures in
    resumes_fails _ (bookings c.args.board.now) c.loop-passed.passed (bookings c.loop-passed.board) (bookings c.round.new.board)
    went.0 c.in-Err.verdict c.loop-passed.invariant went.1

pub returns-in-Err-clause-promise : goal.returns-in-Err-clause-promise
returns-in-Err-clause-promise g c = (every_run_keeps_its_promise, every_list_of_calls_has_one_run)
