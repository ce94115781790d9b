-- Each entry is the mirror of the one below.
use Rattle.std.proofs.Common.{◌<◌, Some, sym, ap, ◌∙◌, arith}
use Rattle.model.specs.declared.entries.Entry.{Entry}
use Rattle.model.specs.Sheets.{count, mirror, mirror_entry}
use Rattle.model.proofs.At.{some_at, none_at, at_some, at_none}
use Rattle.model.proofs.Mirrors.{mirror_count, mirror_at}
use Rattle.sheet.proofs.mirrors.MirrorSheet.entry.Goals as goal

pub mirrored-requires : goal.mirrored-requires
mirrored-requires g c =
    let s = g.S.Sheet.meaning c.args.self.now.below.now in
    let h = at_some s c.args.place c.in_ok-e.e (sym c.in_ok-e.ensures) in
    let good = (g.S.Sheet.limits c.args.self.now.below.now).each c.args.place h.0 in
    let r = ap (λ (e : Entry). e.release) h.1 in
    let d = ap (λ (e : Entry). e.deadline) h.1 in
    (omega arith, omega arith)

pub returns-in_err-e : goal.returns-in_err-e
returns-in_err-e g c =
    let s = g.S.Sheet.meaning c.args.self.now.below.now in
    let h = at_none s c.args.place (sym c.entry.ensures ∙ c.in_err-e.was) in
    c.from_residual.ensures ∙ sym (none_at (mirror s) c.args.place (omega (arith, mirror_count s)))

pub returns : goal.returns
returns g c =
    let s = g.S.Sheet.meaning c.args.self.now.below.now in
    let h = at_some s c.args.place c.in_ok-e.e (sym c.in_ok-e.ensures) in
    let l : c.args.place < count (mirror s) = omega (arith, mirror_count s) in
    ap Some (c.mirrored.ensures ∙ ap mirror_entry h.1 ∙ sym (mirror_at s c.args.place h.0)) ∙ sym (some_at (mirror s) c.args.place l)
