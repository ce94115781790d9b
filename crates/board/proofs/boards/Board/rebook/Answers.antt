-- The window is judged with the row's own duration, and the rows left are those that rebook leaves.
use Rattle.std.proofs.Common.{List, ap, ◌∙◌}
use Rattle.std.proofs.lemmas.Result.{err_from_is_err_and}
use Rattle.model.specs.declared.rows.Row.{Row}
use Rattle.model.specs.Limits.{row_at}
use Rattle.board.specs.Held.{bookings}
use Rattle.board.specs.Calls.{moves, unfit}
use Rattle.board.specs.Calls as calls
use Rattle.board.proofs.Found.{found_at, unknown_pair}
use Rattle.board.proofs.Sound.{rebooked_sound}
use Rattle.board.proofs.boards.Board.rebook.Goals as goal

pub returns-in_err-i : goal.returns-in_err-i
returns-in_err-i c =
    let p = err_from_is_err_and c.from_residual.result c.from_residual.ensures.1 in
    let none = unknown_pair _ _ _ _ c.find.ensures c.in_err-i.ensures.value in
    rw (p.1, p.2, none.1) (calls.Rebooks.unknown none.0)

pub returns-in_err-window : goal.returns-in_err-window
returns-in_err-window c =
    let at = found_at _ _ _ _ c.find.ensures c.in_ok-i.ensures.ok_part in
    let p = err_from_is_err_and c.from_residual-in_err-window.result c.from_residual-in_err-window.ensures.1 in
    let lasts = c.from.ensures ∙ ap (λ (rows : List Row). (row_at rows c.in_ok-i.i).duration) c.rows.ensures in
    rw (p.1, p.2, c.in_err-window.ensures.1) (unfit _ at (rw lasts at c.in_err-window.ensures.0))

pub invariant_of-self : goal.invariant_of-self
invariant_of-self c =
    let b = c.args.self.now in
    let at = found_at _ _ _ _ c.find.ensures c.in_ok-i.ensures.ok_part in
    let lasts = c.from.ensures ∙ ap (λ (rows : List Row). (row_at rows c.in_ok-i.i).duration) c.rows.ensures in
    record {
      sound = rw (c.reset.ensures, c.rebook.ensures, c.in_ok-window.ensures.1)
          (rebooked_sound (bookings b) b.sound (moves _ at (rw lasts at c.in_ok-window.ensures.0)));
    }

pub returns : goal.returns
returns c =
    let at = found_at _ _ _ _ c.find.ensures c.in_ok-i.ensures.ok_part in
    let lasts = c.from.ensures ∙ ap (λ (rows : List Row). (row_at rows c.in_ok-i.i).duration) c.rows.ensures in
    rw (c.reset.ensures, c.rebook.ensures, c.in_ok-window.ensures.1) (moves _ at (rw lasts at c.in_ok-window.ensures.0))
