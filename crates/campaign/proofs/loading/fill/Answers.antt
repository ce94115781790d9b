use Rattle.std.proofs.Common.{◌≡◌, length, sym, arith}
use Rattle.std.proofs.lemmas.Result.{err_from_is_err_and}
use Rattle.std.proofs.lemmas.Bool.{eqb-true, eqb-false}
use Rattle.campaign.specs.Loads.{whole, header, body, left_over}
use Rattle.campaign.proofs.loading.fill.Goals as goal

pub returns-in_err-count : goal.returns-in_err-count
returns-in_err-count c =
    let p = err_from_is_err_and c.from_residual.result c.from_residual.ensures.1 in
    rw (p.1, p.2) (header _ (rw c.new-reader.ensures at c.in_err-count.ensures))

pub returns-in_err-enter_records : goal.returns-in_err-enter_records
returns-in_err-enter_records c =
    let r = c.from_residual-in_err-enter_records in
    let p = err_from_is_err_and r.result r.ensures.1 in
    rw (p.1, p.2)
    (body _ _ _ _ (rw c.new-reader.ensures at c.in_ok-count.ensures) c.in_err-enter_records.ensures)

pub returns-then-at_end : goal.returns-then-at_end
returns-then-at_end c =
    let n = length c.enter_records.new.reader.rest.now in
    whole _ _ _ _ _ (rw c.new-reader.ensures at c.in_ok-count.ensures) c.in_ok-enter_records.ensures
    (eqb-true n 0 (sym c.if-at_end.ensures))

pub returns-else-at_end : goal.returns-else-at_end
returns-else-at_end c =
    let n = length c.enter_records.new.reader.rest.now in
    let left : n ≡ 0 → ⊥ = eqb-false n 0 (sym c.if-at_end.ensures) in
    rw (c.at.ensures, c.place.ensures)
    (left_over _ _ _ _ _ (rw c.new-reader.ensures at c.in_ok-count.ensures) c.in_ok-enter_records.ensures (omega arith))
