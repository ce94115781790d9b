-- The entry at the place of the cut is cut, and the others are those below.
use Rattle.std.proofs.Common.{◌≡◌, ℕ, ◌<◌, Some, sym, ap, ◌∙◌, arith}
use Rattle.model.specs.declared.entries.Entry.{Entry}
use Rattle.model.specs.Sheets.{count, entry, cut, cut_entry}
use Rattle.model.proofs.At.{some_at, none_at, at_some, at_none}
use Rattle.model.proofs.Cuts.{cut_count, cut_here, cut_there}
use Rattle.sheet.proofs.cuts.CutSheet.entry.Goals as goal

pub cut_at-requires : goal.cut_at-requires
cut_at-requires g c =
    let s = g.S.Sheet.meaning c.args.self.now.below.now in
    let h = at_some s c.args.place c.in_ok-e.e (sym c.in_ok-e.ensures) in
    let good = (g.S.Sheet.limits c.args.self.now.below.now).each c.args.place h.0 in
    let r = ap (λ (e : Entry). e.release) h.1 in
    let d = ap (λ (e : Entry). e.deadline) h.1 in
    let p = ap (λ (e : Entry). e.duration) h.1 in
    omega arith

pub returns-in_err-e : goal.returns-in_err-e
returns-in_err-e g c =
    let m = c.args.self.now in
    let s = g.S.Sheet.meaning m.below.now in
    let h = at_none s c.args.place (sym c.entry.ensures ∙ c.in_err-e.was) in
    c.from_residual.ensures ∙ sym (none_at (cut s m.place m.deadline) c.args.place (omega (arith, cut_count s m.place m.deadline)))

pub returns-then-place-self : goal.returns-then-place-self
returns-then-place-self g c =
    let m = c.args.self.now in
    let s = g.S.Sheet.meaning m.below.now in
    let k = c.args.place in
    let same : m.place ≡ k = omega (arith, c.if-place-self.true) in
    let h = at_some s k c.in_ok-e.e (sym c.in_ok-e.ensures) in
    let l : k < count (cut s k m.deadline) = omega (arith, cut_count s k m.deadline) in
    ap Some (c.cut_at.ensures ∙ ap (cut_entry m.deadline) h.1 ∙ sym (cut_here s k m.deadline h.0))
    ∙ sym (some_at (cut s k m.deadline) k l)
    ∙ ap (λ (j : ℕ). Rattle.model.specs.Sheets.entry_at (cut s j m.deadline) k) (sym same)

pub returns-else-place-self : goal.returns-else-place-self
returns-else-place-self g c =
    let m = c.args.self.now in
    let s = g.S.Sheet.meaning m.below.now in
    let k = c.args.place in
    let h = at_some s k c.in_ok-e.e (sym c.in_ok-e.ensures) in
    let l : k < count (cut s m.place m.deadline) = omega (arith, cut_count s m.place m.deadline) in
    ap Some (h.1 ∙ sym (cut_there s m.place m.deadline k c.if-place-self.false)) ∙ sym (some_at (cut s m.place m.deadline) k l)
