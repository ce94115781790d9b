-- The rows before the place that is reached are reset, and the others are as they were.
use Rattle.std.proofs.Common.{◌≡◌, ◌++◌, map, take, drop}
use Rattle.model.specs.Changes.{reset}
use Rattle.board.proofs.table.Table.reset.Given as goal

abbrev pub invariant-loop-row : goal.invariant-loop-row
invariant-loop-row l =
    l.row-items ≡ map reset (take l.row-index l.initial.row-items) ++ drop l.row-index l.initial.row-items
