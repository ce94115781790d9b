-- A file with a fault leaves the board as it was.
use Rattle.std.proofs.Common.{ℕ, List, Err}
use Rattle.board.specs.Calls.{Bookings}
use Rattle.campaign.specs.declared.faults.Fault.{Fault}
use Rattle.campaign.specs.Loads.{Loads, header, body, left_over}
use Rattle.report.specs.Lines.{fault_line}
use Rattle.planning.specs.Plans.{Plans, faulted}

pub fault_told : (file : List ℕ) (before after : Bookings) (f : Fault) → Loads file before (Err f) after → Plans file before (fault_line f) after
fault_told file before after f (header _ h) = faulted f (header f h)
fault_told file before after f (body count p b _ h x) = faulted f (body count p b f h x)
fault_told file before after f (left_over count p q b c h x l) = faulted f (left_over count p q b c h x l)
