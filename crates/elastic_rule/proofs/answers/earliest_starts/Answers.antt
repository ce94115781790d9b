-- Where something is overfull, the entries stay.
use Rattle.std.proofs.Common.{Some, sym, ap, ◌∙◌}
use Rattle.elastic.proofs.Law.{earliest_stays}
use Rattle.sheet.specs.Listed.{meant}
use Rattle.elastic_rule.proofs.answers.earliest_starts.Goals as goal

pub returns-in-Err : goal.returns-in-Err
returns-in-Err c =
    let s = meant c.args.sheet in
    let found = c.in-Err.field-0 in
    λ k l. earliest_stays s k found.t1 found.t2 c.args.sheet.sound l c.in-Err.ensures.0 ∙ ap Some (sym (c.releases.ensures k l))
