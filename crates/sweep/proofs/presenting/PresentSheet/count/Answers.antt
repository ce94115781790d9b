-- One entry for each row.
use Rattle.std.proofs.Common.{sym}
use Rattle.runs.proofs.Boards.{present_count}
use Rattle.sweep.specs.Meant.{rows_of}
use Rattle.sweep.proofs.presenting.PresentSheet.count.Goals as goal

pub returns : goal.returns
returns c = sym (present_count (rows_of c.args.self.now))
