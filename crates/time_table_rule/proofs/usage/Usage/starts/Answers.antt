-- Each start is the first room of its entry.
use Rattle.std.proofs.Common.{◌≡◌, ◌<◌, length, Some, arith, length-set}
use Rattle.model.proofs.Filling.{fill_more}
use Rattle.timetable.specs.Meaning.{meaning_T}
use Rattle.timetable.proofs.RuleT.{start_is_T}
use Rattle.sheet.specs.Listed.{meant}
use Rattle.time_table_rule.proofs.usage.Usage.starts.Goals as goal

pub loop-place-preserved : goal.loop-place-preserved
loop-place-preserved c =
    let s = meant c.args.self.now.sheet in
    let sound = c.args.self.now.sheet.sound in
    let k = c.loop-place.place in
    let xs = c.loop-place.starts in
    let here = c.start.result in
    let (long, each) = c.loop-place.invariant in
    let lt : k < length xs = omega (arith, sound.few) in (
      omega (arith, length-set xs k here),
      fill_more (λ i n. meaning_T.earliest s i ≡ Some n) xs k here lt each (start_is_T s sound k (omega arith) here c.start.ensures),
    )
