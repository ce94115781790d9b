-- A file that is loaded is swept and reported, and the fault of any other is told.
use Rattle.board.specs.Held.{bookings}
use Rattle.report.specs.Lines.{report_lines, fault_line}
use Rattle.planning.specs.Plans.{planned}
use Rattle.planning.proofs.Faulted.{fault_told}
use Rattle.planning.proofs.plans.plan_and_tell.Goals as goal

pub returns-in-Ok : goal.returns-in-Ok
returns-in-Ok c = (
  report_lines (bookings c.sweep-swept.new.board) c.sweep-swept.result,
  planned (bookings c.load.new.board) c.sweep-swept.result (bookings c.sweep-swept.new.board) c.in-Ok.ensures c.sweep-swept.ensures.step,
  c.report.ensures,
)

pub returns-in-Err : goal.returns-in-Err
returns-in-Err c =
    (fault_line c.in-Err.fault, fault_told _ _ _ c.in-Err.fault c.in-Err.ensures, c.refusal.ensures)
