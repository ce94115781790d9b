use Rattle.std.proofs.Common.{◌≡◌, rules}
use Rattle.std.proofs.lemmas.Result.{err_from_is_err_and}
use Rattle.records.proofs.Mapped.{mapped_err, mapped_ok}
use Rattle.campaign.specs.declared.faults.Cause.TheVariants.{Board}
use Rattle.campaign.specs.Loads.{unread_in, fault_in, heads, no_capacity, bad_capacity, no_count, too_many}
use Rattle.records.specs.Reading.{spot}
use Rattle.campaign.proofs.Refused.{build_refused}
use Rattle.campaign.proofs.loading.build.Goals as goal

pub returns-in_err-capacity : goal.returns-in_err-capacity
returns-in_err-capacity c =
    let p = err_from_is_err_and c.from_residual.result c.from_residual.ensures.1 in
    let (e, is, made) = mapped_err _ c.number.result c.map_err.result _ c.map_err.ensures.cases c.in_err-capacity.was in
    let why : c.in_err-capacity.field-0.0 ≡ unread_in 0 e = search rules in
    rw (p.1, p.2, why) (no_capacity e (rw is at c.number.ensures.exact).0)

pub returns-in_err-map_err : goal.returns-in_err-map_err
returns-in_err-map_err c =
    let r = c.from_residual-in_err-map_err in
    let p = err_from_is_err_and r.result r.ensures.1 in
    let capacity = mapped_ok _ c.number.result c.map_err.result _ c.map_err.ensures.cases c.in_ok-capacity.was in
    let (w, is, made) = mapped_err _ c.build.result c.map_err-2.result _ c.map_err-2.ensures.cases c.in_err-map_err.was in
    let why : c.in_err-map_err.field-0.0 ≡ fault_in 0 (Board w) (spot c.args.reader.now) = search rules in
    rw (p.1, p.2, why) (bad_capacity _ _ w (rw capacity at c.number.ensures.exact) (build_refused _ _ _ w (rw is at c.build.ensures)))

pub returns-in_err-count : goal.returns-in_err-count
returns-in_err-count c =
    let r = c.from_residual-in_err-count in
    let p = err_from_is_err_and r.result r.ensures.1 in
    let capacity = mapped_ok _ c.number.result c.map_err.result _ c.map_err.ensures.cases c.in_ok-capacity.was in
    let built = mapped_ok _ c.build.result c.map_err-2.result _ c.map_err-2.ensures.cases c.in_ok-map_err.was in
    let (e, is, made) = mapped_err _ c.number-2.result c.map_err-3.result _ c.map_err-3.ensures.cases c.in_err-count.was in
    let why : c.in_err-count.field-0.0 ≡ unread_in 0 e = search rules in
    rw (p.1, p.2, why)
    (no_count _ _ _ e (rw capacity at c.number.ensures.exact) (rw built at c.build.ensures) (rw is at c.number-2.ensures.exact).0)

pub returns-then-count-gt-RECORDS_MAX : goal.returns-then-count-gt-RECORDS_MAX
returns-then-count-gt-RECORDS_MAX c =
    let capacity = mapped_ok _ c.number.result c.map_err.result _ c.map_err.ensures.cases c.in_ok-capacity.was in
    let built = mapped_ok _ c.build.result c.map_err-2.result _ c.map_err-2.ensures.cases c.in_ok-map_err.was in
    let count = mapped_ok _ c.number-2.result c.map_err-3.result _ c.map_err-3.ensures.cases c.in_ok-count.was in
    rw (c.at.ensures, c.place-byte-2.ensures)
    (too_many _ _ _ _ _ (rw capacity at c.number.ensures.exact) (rw built at c.build.ensures) (rw count at c.number-2.ensures.exact) c.if-count-gt-RECORDS_MAX.true)

pub returns : goal.returns
returns c =
    let capacity = mapped_ok _ c.number.result c.map_err.result _ c.map_err.ensures.cases c.in_ok-capacity.was in
    let built = mapped_ok _ c.build.result c.map_err-2.result _ c.map_err-2.ensures.cases c.in_ok-map_err.was in
    let count = mapped_ok _ c.number-2.result c.map_err-3.result _ c.map_err-3.ensures.cases c.in_ok-count.was in
    heads _ _ _ _ _ (rw capacity at c.number.ensures.exact) (rw built at c.build.ensures) (rw count at c.number-2.ensures.exact) c.if-count-gt-RECORDS_MAX.false
