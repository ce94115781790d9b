-- What is judged of the listed entries is judged of the sheet.
use Rattle.std.proofs.Common.{◌≡◌, ℕ, List, Some, None, Ok, Err, Result, ◌∙◌, subst, MatchResult}
use Rattle.model.specs.declared.intervals.Interval.{Interval}
use Rattle.model.specs.Sheets.{Sheet, Sound}
use Rattle.elastic.specs.Meaning.{meaning_E}
use Rattle.elastic.proofs.Law.{evidence_is}
use Rattle.elastic_rule.specs.Judged.{Judged}
use Rattle.elastic_rule.proofs.rule.ElasticRule.judge.Goals as goal

module _ (s : Sheet) (sound : Sound s) where
  value : (r : Result (List ℕ) Interval) → Judged s r → MatchResult r (λ x. meaning_E.evidence s ≡ None) (λ i. meaning_E.evidence s ≡ Some i)
  value (Ok x) h = evidence_is s None sound h.0
  value (Err i) h = evidence_is s (Some i) sound h

pub returns-clause-value : goal.returns-clause-value
returns-clause-value g c =
    let h = subst (λ (x : Sheet). Judged x c.judged.result) (c.lend.ensures ∙ c.list.ensures.sheet) c.judged.ensures in
    value (g.S.Sheet.meaning c.args.sheet.now) (g.S.Sheet.limits c.args.sheet.now) c.judged.result h

pub returns-clause-told : goal.returns-clause-told
returns-clause-told g c =
    let h = subst (λ (x : Sheet). Judged x c.judged.result) (c.lend.ensures ∙ c.list.ensures.sheet) c.judged.ensures in
    value (g.S.Sheet.meaning c.args.sheet.now) (g.S.Sheet.limits c.args.sheet.now) c.judged.result h
