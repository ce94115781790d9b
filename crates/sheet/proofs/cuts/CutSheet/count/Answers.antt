-- A cut has as many entries as the sheet below.
use Rattle.std.proofs.Common.{sym, ◌∙◌}
use Rattle.model.proofs.Cuts.{cut_count}
use Rattle.sheet.proofs.cuts.CutSheet.count.Goals as goal

pub returns : goal.returns
returns g c =
    let m = c.args.self.now in
    c.count.ensures ∙ sym (cut_count (g.S.Sheet.meaning m.below.now) m.place m.deadline)
