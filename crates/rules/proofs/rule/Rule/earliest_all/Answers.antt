-- Every entry that the sheet has gets a number, which is written at its place.
use Rattle.std.proofs.Common.{◌≡◌, ℕ, ◌<◌, length, Some, Option, unwrap_or, sym, ap, ◌∙◌, arith, length-set}
use Rattle.model.proofs.Filling.{fill_more}
use Rattle.rules.proofs.rule.Rule.earliest_all.Goals as goal

stands : (o : Option ℕ) (n m : ℕ) → o ≡ Some n → m ≡ unwrap_or o 0 → o ≡ Some m
stands o n m e h = e ∙ ap Some (sym (h ∙ ap (λ (p : Option ℕ). unwrap_or p 0) e))

pub loop-i-preserved : goal.loop-i-preserved
loop-i-preserved g c =
    let s = g.S.Sheet.meaning c.args.sheet.now in
    let sound = g.S.Sheet.limits c.args.sheet.now in
    let rule = g.Self.Rule.means c.args.self.now in
    let i = c.loop-i.i in
    let here = c.unwrap_or.result in
    let lt : i < length c.loop-i.starts = omega (arith, sound.few) in
    let got = (g.Self.Rule.proper c.args.self.now).present s sound i (omega arith) in
    let value : here ≡ unwrap_or (rule.earliest s i) 0 = c.unwrap_or.ensures ∙ ap (λ (p : Option ℕ). unwrap_or p 0) c.earliest.ensures in (
      omega (arith, length-set c.loop-i.starts i here),
      fill_more (λ k n. rule.earliest s k ≡ Some n) c.loop-i.starts i here lt c.loop-i.invariant.1 (stands (rule.earliest s i) got.0 here got.1 value),
    )
