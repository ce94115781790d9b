-- Where the highest usage leaves room, the release has room.
use Rattle.std.proofs.Common.{◌<◌, inl, arith}
use Rattle.model.specs.Sheets.{horizon}
use Rattle.timetable.proofs.RuleT.{stays_T}
use Rattle.sheet.specs.Listed.{meant}
use Rattle.time_table_rule.proofs.usage.Usage.start.Goals as goal

pub returns-then-self-from : goal.returns-then-self-from
returns-then-self-from c =
    let u = c.args.self.now in
    let s = meant u.sheet in
    let k = c.args.place in
    let e = u.sheet.sound.each k c.requires in
    inl (stays_T s u.sheet.sound k c.requires (λ t low high.
    let inside : t < horizon = omega arith in
    omega (arith, u.used.each t inside, u.highest t (omega (arith, u.used.slots)), c.if-self-from.true, e.fits)))
