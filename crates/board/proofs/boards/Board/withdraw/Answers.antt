-- The rows left are those that withdraw leaves.
use Rattle.std.proofs.lemmas.Result.{err_from_is_err_and}
use Rattle.board.specs.Held.{bookings}
use Rattle.board.specs.Calls.{removes}
use Rattle.board.specs.Calls as calls
use Rattle.board.proofs.Found.{found_at, unknown_pair}
use Rattle.board.proofs.Sound.{withdrawn_sound}
use Rattle.board.proofs.boards.Board.withdraw.Goals as goal

pub returns-in_err-i : goal.returns-in_err-i
returns-in_err-i c =
    let p = err_from_is_err_and c.from_residual.result c.from_residual.ensures.1 in
    let none = unknown_pair _ _ _ _ c.find.ensures c.in_err-i.ensures.value in
    rw (p.1, p.2, none.1) (calls.Withdraws.unknown none.0)

pub invariant_of-self : goal.invariant_of-self
invariant_of-self c =
    let b = c.args.self.now in
    let at = found_at _ _ _ _ c.find.ensures c.in_ok-i.ensures.ok_part in
    record { sound = rw (c.reset.ensures, c.remove.ensures) (withdrawn_sound (bookings b) b.sound (removes _ at)) }

pub returns : goal.returns
returns c =
    rw (c.reset.ensures, c.remove.ensures) (removes _ (found_at _ _ _ _ c.find.ensures c.in_ok-i.ensures.ok_part))
