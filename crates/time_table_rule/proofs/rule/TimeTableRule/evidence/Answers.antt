-- The first crowded slot of the listed entries is that of the sheet.
use Rattle.std.proofs.Common.{sym, ap, ◌∙◌, subst}
use Rattle.std.specs.Option.{option_map}
use Rattle.model.specs.Sheets.{Sheet}
use Rattle.model.specs.Rules.{Named}
use Rattle.model.specs.TimeTable.{Crowded}
use Rattle.timetable.proofs.RuleT.{evidence_is_T}
use Rattle.time_table_rule.specs.Shown.{told, shown}
use Rattle.time_table_rule.proofs.Telling.{shown_told}
use Rattle.time_table_rule.proofs.rule.TimeTableRule.evidence.Goals as goal

pub returns : goal.returns
returns g c =
    let found = c.crowded_slot.result in
    let same = c.lend.ensures ∙ c.list.ensures.sheet in
    let named = subst (λ (x : Sheet). Named (Crowded x) (option_map told found)) same c.crowded_slot.ensures in
    let is = evidence_is_T (g.S.Sheet.meaning c.args.sheet.now) (option_map told found) named in
    record { value = sym (ap shown is ∙ shown_told found); told = sym is }
