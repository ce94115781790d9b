-- Beside evidence the releases.
use Rattle.std.proofs.Common.{Some, sym, ap, ◌∙◌}
use Rattle.sheet.specs.Listed.{meant}
use Rattle.shift_rule.proofs.Answered.{stays_beside}
use Rattle.shift_rule.proofs.answers.earliest_starts.Goals as goal

pub returns-in-Err : goal.returns-in-Err
returns-in-Err c =
    let s = meant c.args.sheet in
    λ k l. stays_beside s c.args.sheet.sound c.in-Err.field-0 c.in-Err.ensures k l ∙ ap Some (sym (c.releases.ensures k l))
