-- A test with nothing wrong makes a row, for which there is room, and the rows are then those that enter leaves.
use Rattle.std.proofs.lemmas.Result.{err_from_is_err_and}
use Rattle.board.specs.Held.{bookings}
use Rattle.board.specs.Calls.{adds, refuses}
use Rattle.board.proofs.Kept.{fine_test}
use Rattle.board.proofs.Sound.{entered_sound}
use Rattle.board.proofs.boards.Board.enter.Goals as goal

pub returns-in_err-row : goal.returns-in_err-row
returns-in_err-row c =
    let p = err_from_is_err_and c.from_residual.result c.from_residual.ensures.1 in
    rw (p.1, p.2) (refuses _ c.in_err-row.ensures)

pub add-requires : goal.add-requires
add-requires c = (fine_test (bookings c.args.self.now) c.args.test c.in_ok-row.ensures.0).room

pub invariant_of-self : goal.invariant_of-self
invariant_of-self c =
    let b = c.args.self.now in
    record { sound = rw (c.add.ensures, c.in_ok-row.ensures.1) (entered_sound (bookings b) b.sound (adds c.in_ok-row.ensures.0)) }

pub returns : goal.returns
returns c = rw (c.add.ensures, c.in_ok-row.ensures.1) (adds c.in_ok-row.ensures.0)
