-- The reader stays where the one that started from here met a fault, and else goes where it went.
use Rattle.std.proofs.Common.{refl}
use Rattle.std.proofs.lemmas.Result.{err_from_is_err_and}
use Rattle.records.proofs.reader.Reader.read.Goals as goal

pub returns-in_err-taken : goal.returns-in_err-taken
returns-in_err-taken g c =
    let p = err_from_is_err_and c.from_residual.result c.from_residual.ensures.1 in
    rw (p.1, p.2) (c.take.new.arg2, record { shown = _; shows = refl; left = _; met = c.in_err-taken.ensures; leaves = refl }, refl)

pub returns : goal.returns
returns g c = (c.take.new.arg2, record { shown = _; shows = refl; left = _; met = c.in_ok-taken.ensures; leaves = refl }, refl)
