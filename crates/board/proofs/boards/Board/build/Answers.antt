-- A capacity outside the limits is refused, and any other makes a board without rows.
use Rattle.std.proofs.Common.{inl, inr, arith, rules}
use Rattle.board.specs.Calls.{makes, too_small, too_large}
use Rattle.board.proofs.Ranges.{outside}
use Rattle.board.proofs.boards.Board.build.Goals as goal

pub returns-then-not-contains : goal.returns-then-not-contains
returns-then-not-contains c =
    elim (outside _ _ _ _ c.new.ensures c.if-not-contains.ensures) [
      | inl low ↦ too_small (omega arith)
      | inr high ↦ too_large (omega (arith, c.from.ensures))
    ]

pub returns : goal.returns
returns c = rw c.clear.ensures (makes (search rules) (search rules))
