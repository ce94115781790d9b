use Rattle.std.proofs.Common.{◌≡◌, Ok, ap, ◌∙◌, rules}
use Rattle.std.proofs.lemmas.Result.{err_from_is_err_and}
use Rattle.records.specs.Reading.{spot, said_by}
use Rattle.records.proofs.Begins.{test_begins}
use Rattle.records.proofs.Mapped.{mapped_err, mapped_ok}
use Rattle.campaign.specs.declared.faults.Cause.TheVariants.{Board}
use Rattle.campaign.specs.Loads.{unread_in, fault_at, noted, tested, unread, refused}
use Rattle.campaign.proofs.Refused.{enter_refused}
use Rattle.campaign.proofs.entering.enter_record.Goals as goal

pub returns-in_err-record : goal.returns-in_err-record
returns-in_err-record c =
    let p = err_from_is_err_and c.from_residual.result c.from_residual.ensures.1 in
    let (e, is, made) = mapped_err _ c.record.result c.map_err.result _ c.map_err.ensures.cases c.in_err-record.was in
    let why : c.in_err-record.field-0.0 ≡ unread_in c.args.number e = search rules in
    rw (p.1, p.2, why) (unread e (rw is at c.record.ensures).0)

pub returns-in_err-map_err : goal.returns-in_err-map_err
returns-in_err-map_err c =
    let q = spot c.record.new.self in
    let r = c.from_residual-in_err-map_err in
    let p = err_from_is_err_and r.result r.ensures.1 in
    let read = mapped_ok _ c.record.result c.map_err.result _ c.map_err.ensures.cases c.in_ok-record.was in
    let e = rw read at c.record.ensures ∙ ap (λ x. Ok (said_by x, q)) c.in-Test.is in
    let (w, is, made) = mapped_err _ c.enter.result c.map_err-in-Test.result _ c.map_err-in-Test.ensures.cases c.in_err-map_err.was in
    let fault = fault_at c.args.number (Board w) in
    let met : c.in_err-map_err.field-0.0 ≡ fault c.in-Test.at = search rules in
    rw (p.1, p.2, met ∙ ap fault (test_begins _ _ _ _ _ e))
    (refused _ _ _ _ w e (enter_refused _ _ _ _ (rw (is, c.asked.ensures) at c.enter.ensures)))

pub returns-in_ok-map_err : goal.returns-in_ok-map_err
returns-in_ok-map_err c =
    let q = spot c.record.new.self in
    let read = mapped_ok _ c.record.result c.map_err.result _ c.map_err.ensures.cases c.in_ok-record.was in
    let e = rw read at c.record.ensures ∙ ap (λ x. Ok (said_by x, q)) c.in-Test.is in
    let is = mapped_ok _ c.enter.result c.map_err-in-Test.result _ c.map_err-in-Test.ensures.cases c.in_ok-map_err.was in
    tested _ _ _ _ _ e (rw (is, c.asked.ensures) at c.enter.ensures)

pub returns-in_default : goal.returns-in_default
returns-in_default c =
    let q = spot c.record.new.self in
    let read = mapped_ok _ c.record.result c.map_err.result _ c.map_err.ensures.cases c.in_ok-record.was in
    noted _ _ _ (rw read at c.record.ensures ∙ ap (λ x. Ok (said_by x, q)) c.in_default.is)
