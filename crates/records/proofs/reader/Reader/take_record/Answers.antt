use Rattle.std.proofs.Common.{arith}
use Rattle.std.proofs.lemmas.Result.{err_from_is_err_and}
use Rattle.records.proofs.Here.{record_unread, record_kind, note_unread, note_whole, test_unread, label_unread, test_whole}
use Rattle.records.proofs.reader.Reader.take_record.Goals as goal

pub returns-in_err-take_number : goal.returns-in_err-take_number
returns-in_err-take_number c =
    let p = err_from_is_err_and c.from_residual.result c.from_residual.ensures.1 in
    rw (p.1, p.2) (record_unread _ _ c.in_err-take_number.ensures.exact)

pub returns-in_err-take_text-in-0 : goal.returns-in_err-take_text-in-0
returns-in_err-take_text-in-0 c =
    let p = err_from_is_err_and c.from_residual-in_err-take_text-in-0.result c.from_residual-in_err-take_text-in-0.ensures.1 in
    rw (p.1, p.2) (note_unread _ _ _ _ c.in_ok-take_number.ensures.exact c.in-0.is c.in_err-take_text-in-0.ensures)

pub returns-in_err-take_fields-in-1 : goal.returns-in_err-take_fields-in-1
returns-in_err-take_fields-in-1 c =
    let p = err_from_is_err_and c.from_residual-in_err-take_fields-in-1.result c.from_residual-in_err-take_fields-in-1.ensures.1 in
    rw (p.1, p.2) (test_unread _ _ _ _ c.in_ok-take_number.ensures.exact c.in-1.is c.in_err-take_fields-in-1.ensures)

pub returns-in_err-take_text-in-1 : goal.returns-in_err-take_text-in-1
returns-in_err-take_text-in-1 c =
    let p = err_from_is_err_and c.from_residual-in_err-take_text-in-1.result c.from_residual-in_err-take_text-in-1.ensures.1 in
    rw (p.1, p.2)
    (label_unread _ _ _ _ _ _
    c.in_ok-take_number.ensures.exact c.in-1.is c.in_ok-take_fields-in-1.ensures c.in_err-take_text-in-1.ensures)

pub returns-in_default : goal.returns-in_default
returns-in_default c = rw c.at.ensures (record_kind _ _ _ c.in_ok-take_number.ensures.exact (λ z. omega arith) (λ z. omega arith))

pub returns-in_ok-take_text-in-0 : goal.returns-in_ok-take_text-in-0
returns-in_ok-take_text-in-0 c =
    note_whole _ _ _ _ _ c.in_ok-take_number.ensures.exact c.in-0.is c.in_ok-take_text-in-0.ensures

pub returns-in_ok-take_text-in-1 : goal.returns-in_ok-take_text-in-1
returns-in_ok-take_text-in-1 c =
    test_whole _ _ _ _ _ _ _
    c.in_ok-take_number.ensures.exact c.in-1.is c.in_ok-take_fields-in-1.ensures c.in_ok-take_text-in-1.ensures
