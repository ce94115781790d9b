-- One pass finds the evidence of S, and beside no evidence its earliest starts.
use Rattle.std.proofs.Common.{◌∙◌}
use Rattle.sheet.specs.Listed.{meant}
use Rattle.shift_rule.proofs.Answered.{evidence_found, starts_found}
use Rattle.shift_rule.proofs.answers.judged.Goals as goal

pub returns-in-Some : goal.returns-in-Some
returns-in-Some c =
    let found = c.survey-found.ensures in
    evidence_found (meant c.args.sheet) c.survey-found.result found.right found.accounted ∙ c.in-Some.is

pub returns-in-None : goal.returns-in-None
returns-in-None c =
    let s = meant c.args.sheet in
    let found = c.survey-found.ensures in (
      evidence_found s c.survey-found.result found.right found.accounted ∙ c.in-None.is,
      starts_found s c.survey-found.result found.right found.accounted c.in-None.is,
    )
