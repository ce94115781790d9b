-- What is judged of the listed entries is judged of the sheet.
use Rattle.std.proofs.Common.{◌≡◌, ℕ, List, Some, None, Ok, Err, Result, ap, ◌∙◌, subst, MatchResult}
use Rattle.model.specs.Sheets.{Sheet}
use Rattle.rules.specs.declared.slots.Slot.{Slot}
use Rattle.timetable.specs.Meaning.{meaning_T}
use Rattle.timetable.proofs.RuleT.{evidence_is_T}
use Rattle.time_table_rule.specs.Shown.{told, shown, Judged}
use Rattle.time_table_rule.proofs.Telling.{shown_told}
use Rattle.time_table_rule.proofs.rule.TimeTableRule.judge.Goals as goal

module _ (s : Sheet) where
  value : (r : Result (List ℕ) Slot) → Judged s r → MatchResult r (λ x. shown (meaning_T.evidence s) ≡ None) (λ f. shown (meaning_T.evidence s) ≡ Some f)
  value (Ok x) h = ap shown (evidence_is_T s None h.0)
  value (Err f) h = ap shown (evidence_is_T s (Some (told f)) h) ∙ shown_told (Some f)

  tells : (r : Result (List ℕ) Slot) → Judged s r → MatchResult r (λ x. meaning_T.evidence s ≡ None) (λ f. meaning_T.evidence s ≡ Some (told f))
  tells (Ok x) h = evidence_is_T s None h.0
  tells (Err f) h = evidence_is_T s (Some (told f)) h

pub returns-clause-value : goal.returns-clause-value
returns-clause-value g c =
    let h = subst (λ (x : Sheet). Judged x c.judged.result) (c.lend.ensures ∙ c.list.ensures.sheet) c.judged.ensures in
    value (g.S.Sheet.meaning c.args.sheet.now) c.judged.result h

pub returns-clause-told : goal.returns-clause-told
returns-clause-told g c =
    let h = subst (λ (x : Sheet). Judged x c.judged.result) (c.lend.ensures ∙ c.list.ensures.sheet) c.judged.ensures in
    tells (g.S.Sheet.meaning c.args.sheet.now) c.judged.result h
