-- One entry more.
use Rattle.std.proofs.Common.{◌∙◌, subst, arith, below_more}
use Rattle.model.specs.Sheets.{Sheet, count, entry}
use Rattle.sheet.specs.Listed.{meant}
use Rattle.shift.specs.Meaning.{made_by}
use Rattle.shift_rule.specs.Found.{AccountedAround, Grows}
use Rattle.shift_rule.proofs.Onward.{all_still}
use Rattle.shift_rule.proofs.Answered.{right_before}
use Rattle.shift_rule.proofs.Gone.{gone_none}
use Rattle.shift_rule.proofs.passes.go_through.Goals as goal

pub invariant_of-pass : goal.invariant_of-pass
invariant_of-pass c =
    let s = meant c.args.subject.now.movers.sheet in
    record {
      right = ∣ right_before s c.releases.result (omega (arith, c.releases.type_inv)) c.releases.ensures ∣₁;
      gone = ∣ gone_none s _ c.none.result c.none-2.result c.none.ensures c.none-2.ensures ∣₁;
    }

pub loop-place-preserved : goal.loop-place-preserved
loop-place-preserved c =
    let s = meant c.args.subject.now.movers.sheet in
    let v = c.loop-place.pass.found in
    let w = c.around.new.self.found in
    let (same, done) = c.loop-place.invariant in
    let grows = subst (λ (z : Sheet). Grows (count z) v w) same c.around.ensures.onward.grows in (
      c.around.ensures.onward.same ∙ same,
      below_more (λ i. AccountedAround s w i) c.loop-place.place
          (λ i l j m. all_still s v w grows (made_by (entry s i) (entry s j)) (done i l j m))
          (subst (λ (z : Sheet). AccountedAround z w c.loop-place.place) same c.around.ensures.accounted),
    )

pub returns-clause-accounted : goal.returns-clause-accounted
returns-clause-accounted c i l = c.loop-place.invariant.1 i (omega arith)
