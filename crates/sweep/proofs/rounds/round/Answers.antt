-- The first application that fails ends the round; where none does, the round has narrowed where one of them has.
use Rattle.std.proofs.Common.{◌≡◌, ap, ◌∙◌, refl}
use Rattle.std.specs.Ordering.{ord_max}
use Rattle.std.proofs.lemmas.Result.{err_from_is_err_and}
use Rattle.board.specs.Held.{bookings}
use Rattle.sweep.specs.declared.changes.Change.{Change}
use Rattle.sweep.specs.declared.changes.Change.TheVariants.{Quiet, Narrowed}
use Rattle.sweep.specs.contracts.changes.ChangeOrd.TheImpl.{cmp-value}
use Rattle.sweep.proofs.Rounded.{both, first_fails, second_fails, third_fails, goes_through}
use Rattle.sweep.proofs.rounds.round.Goals as goal

pub returns-in_err-first : goal.returns-in_err-first
returns-in_err-first g c =
    let p = err_from_is_err_and c.from_residual.result c.from_residual.ensures.1 in
    let b = bookings c.args.board.now in
    let d = bookings c.step.new.board in
    rw (p.1, p.2) (first_fails (g.X.Rule.means c.args.x.now) (g.Y.Rule.means c.args.y.now) (g.Z.Rule.means c.args.z.now) b d d d _ c.in_err-first.ensures)

pub returns-in_err-second : goal.returns-in_err-second
returns-in_err-second g c =
    let r = c.from_residual-in_err-second in
    let p = err_from_is_err_and r.result r.ensures.1 in
    let d = bookings c.step-2.new.board in
    rw (p.1, p.2)
    (second_fails (g.X.Rule.means c.args.x.now) (g.Y.Rule.means c.args.y.now) (g.Z.Rule.means c.args.z.now)
    (bookings c.args.board.now) (bookings c.step.new.board) d d _ _ c.in_ok-first.ensures c.in_err-second.ensures)

pub returns-in_err-third : goal.returns-in_err-third
returns-in_err-third g c =
    let r = c.from_residual-in_err-third in
    let p = err_from_is_err_and r.result r.ensures.1 in
    rw (p.1, p.2)
    (third_fails (g.X.Rule.means c.args.x.now) (g.Y.Rule.means c.args.y.now) (g.Z.Rule.means c.args.z.now)
    (bookings c.args.board.now) (bookings c.step.new.board) (bookings c.step-2.new.board) (bookings c.step-3.new.board) _ _ _
    c.in_ok-first.ensures c.in_ok-second.ensures c.in_err-third.ensures)

-- the greater of two changes is what both come to
greater : (m n : Change) → ord_max cmp-value.it m n ≡ both m n
greater Quiet Quiet = refl
greater Quiet Narrowed = refl
greater Narrowed Quiet = refl
greater Narrowed Narrowed = refl

pub returns : goal.returns
returns g c =
    let m = c.in_ok-first.first in
    let n = c.in_ok-second.second in
    let k = c.in_ok-third.third in
    let all : c.max-2.result ≡ both m (both n k) = c.max-2.ensures ∙ greater m c.max.result ∙ ap (both m) (c.max.ensures ∙ greater n k) in
    rw all
    (goes_through (g.X.Rule.means c.args.x.now) (g.Y.Rule.means c.args.y.now) (g.Z.Rule.means c.args.z.now)
    (bookings c.args.board.now) (bookings c.step.new.board) (bookings c.step-2.new.board) (bookings c.step-3.new.board) m n k
    c.in_ok-first.ensures c.in_ok-second.ensures c.in_ok-third.ensures)
