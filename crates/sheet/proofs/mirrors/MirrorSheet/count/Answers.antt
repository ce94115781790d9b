-- A mirror has as many entries as the sheet below.
use Rattle.std.proofs.Common.{sym, ◌∙◌}
use Rattle.model.proofs.Mirrors.{mirror_count}
use Rattle.sheet.proofs.mirrors.MirrorSheet.count.Goals as goal

pub returns : goal.returns
returns g c = c.count.ensures ∙ sym (mirror_count (g.S.Sheet.meaning c.args.self.now.below.now))
