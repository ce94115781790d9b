-- The verdict carries the rule's letter, and the interval that the evidence tells.
use Rattle.board.specs.Held.{bookings}
use Rattle.sweep.proofs.Rounded.{overfull_by, squeezed_by}
use Rattle.sweep.proofs.rounds.step.Goals as goal

pub returns-in-Overfull : goal.returns-in-Overfull
returns-in-Overfull g c =
    overfull_by (g.R.Rule.means c.args.rule.now) (bookings c.args.board.now) (bookings c.apply.new.board)
    (g.R.Evidence.Tells.told c.in-Overfull.evidence) c.interval.result c.mark.result
    c.in-Overfull.ensures.step c.mark.ensures c.interval.ensures

pub returns-in-Squeezed : goal.returns-in-Squeezed
returns-in-Squeezed g c =
    squeezed_by (g.R.Rule.means c.args.rule.now) (bookings c.args.board.now) (bookings c.apply.new.board)
    c.in-Squeezed.row c.mark-in-Squeezed.result c.in-Squeezed.ensures.step c.mark-in-Squeezed.ensures
