use Rattle.std.proofs.lemmas.Result.{err_from_is_err_and}
use Rattle.records.proofs.Here.{fields_1, fields_2, fields_3, fields_4, fields_5, fields_6, fields_whole}
use Rattle.records.proofs.reader.Reader.take_fields.Goals as goal

pub returns-in_err-take_number : goal.returns-in_err-take_number
returns-in_err-take_number c =
    let p = err_from_is_err_and c.from_residual.result c.from_residual.ensures.1 in
    rw (p.1, p.2) (fields_1 _ _ c.in_err-take_number.ensures.exact)

pub returns-in_err-take_number-2 : goal.returns-in_err-take_number-2
returns-in_err-take_number-2 c =
    let p = err_from_is_err_and c.from_residual-in_err-take_number-2.result c.from_residual-in_err-take_number-2.ensures.1 in
    rw (p.1, p.2) (fields_2 _ _ _ _ c.in_ok-take_number.ensures.exact c.in_err-take_number-2.ensures.exact)

pub returns-in_err-take_number-3 : goal.returns-in_err-take_number-3
returns-in_err-take_number-3 c =
    let p = err_from_is_err_and c.from_residual-in_err-take_number-3.result c.from_residual-in_err-take_number-3.ensures.1 in
    rw (p.1, p.2) (fields_3 _ _ _ _ _ _ c.in_ok-take_number.ensures.exact c.in_ok-take_number-2.ensures.exact c.in_err-take_number-3.ensures.exact)

pub returns-in_err-take_number-4 : goal.returns-in_err-take_number-4
returns-in_err-take_number-4 c =
    let p = err_from_is_err_and c.from_residual-in_err-take_number-4.result c.from_residual-in_err-take_number-4.ensures.1 in
    rw (p.1, p.2) (fields_4 _ _ _ _ _ _ _ _ c.in_ok-take_number.ensures.exact c.in_ok-take_number-2.ensures.exact c.in_ok-take_number-3.ensures.exact c.in_err-take_number-4.ensures.exact)

pub returns-in_err-take_number-5 : goal.returns-in_err-take_number-5
returns-in_err-take_number-5 c =
    let p = err_from_is_err_and c.from_residual-in_err-take_number-5.result c.from_residual-in_err-take_number-5.ensures.1 in
    rw (p.1, p.2) (fields_5 _ _ _ _ _ _ _ _ _ _ c.in_ok-take_number.ensures.exact c.in_ok-take_number-2.ensures.exact c.in_ok-take_number-3.ensures.exact c.in_ok-take_number-4.ensures.exact c.in_err-take_number-5.ensures.exact)

pub returns-in_err-take_number-6 : goal.returns-in_err-take_number-6
returns-in_err-take_number-6 c =
    let p = err_from_is_err_and c.from_residual-in_err-take_number-6.result c.from_residual-in_err-take_number-6.ensures.1 in
    rw (p.1, p.2) (fields_6 _ _ _ _ _ _ _ _ _ _ _ _ c.in_ok-take_number.ensures.exact c.in_ok-take_number-2.ensures.exact c.in_ok-take_number-3.ensures.exact c.in_ok-take_number-4.ensures.exact c.in_ok-take_number-5.ensures.exact c.in_err-take_number-6.ensures.exact)

pub returns : goal.returns
returns c = fields_whole _ _ _ _ _ _ _ _ _ _ _ _ _ c.in_ok-take_number.ensures.exact c.in_ok-take_number-2.ensures.exact c.in_ok-take_number-3.ensures.exact c.in_ok-take_number-4.ensures.exact c.in_ok-take_number-5.ensures.exact c.in_ok-take_number-6.ensures.exact
