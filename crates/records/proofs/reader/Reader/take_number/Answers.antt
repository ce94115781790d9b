use Rattle.std.proofs.Common.{sym, ap, ◌∙◌, rules}
use Rattle.std.proofs.lemmas.Result.{err_from_is_err_and}
use Rattle.records.specs.Records.{number_here, numbered}
use Rattle.records.specs.Reading.{spot}
use Rattle.records.proofs.Mapped.{mapped_err, mapped_ok}
use Rattle.records.proofs.Groups.{number_small}
use Rattle.records.proofs.reader.Reader.take_number.Goals as goal

pub returns-in_err-value-clause-exact : goal.returns-in_err-value-clause-exact
unfolding number_here
returns-in_err-value-clause-exact c =
    let p = err_from_is_err_and c.from_residual.result c.from_residual.ensures.1 in
    let (e, is, made) = mapped_err _ c.number.result c.map_err.result _ c.map_err.ensures.cases c.in_err-value.was in
    rw (p.1, p.2) (ap (numbered (spot c.args.self.now)) (sym c.number.ensures ∙ is) ∙ search rules)

pub returns-clause-exact : goal.returns-clause-exact
unfolding number_here
returns-clause-exact c =
    let is = mapped_ok _ c.number.result c.map_err.result _ c.map_err.ensures.cases c.in_ok-value.was in
    rw c.pass.ensures.moved (ap (numbered (spot c.args.self.now)) (sym c.number.ensures ∙ is))

pub returns-clause-small : goal.returns-clause-small
returns-clause-small c =
    let is = mapped_ok _ c.number.result c.map_err.result _ c.map_err.ensures.cases c.in_ok-value.was in
    (number_small 3 _ _ _ (sym c.number.ensures ∙ is)).3
