-- The rounds passed lead from the board at the start to the board as it stands, and each has used up some slot to spare.
use Rattle.std.proofs.Common.{[], ◌∷◌}
use Rattle.board.specs.Held.{bookings}
use Rattle.runs.specs.Sweeping.{spare}
use Rattle.runs.proofs.Resumed.{Resumes}
use Rattle.sweep.proofs.sweeping.sweep.Given as goal

abbrev pub invariant-loop-passed : goal.invariant-loop-passed
invariant-loop-passed g l =
    Resumes (g.X.Rule.means l.x ∷ (g.Y.Rule.means l.y ∷ (g.Z.Rule.means l.z ∷ []))) (bookings l.initial.board) l.passed (bookings l.board)

abbrev pub decreases-loop-passed : goal.decreases-loop-passed
decreases-loop-passed g l = spare (bookings l.board)
