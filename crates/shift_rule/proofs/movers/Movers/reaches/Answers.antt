-- One entry more.
use Rattle.std.proofs.Common.{◌∙◌, arith, length-set}
use Rattle.model.specs.Sheets.{entry}
use Rattle.model.proofs.Filling.{fill_on}
use Rattle.sheet.specs.Listed.{meant}
use Rattle.shift_rule.specs.Leeways.{EnoughAround, no_reach}
use Rattle.shift_rule.proofs.movers.Movers.reaches.Goals as goal

pub loop-place-preserved : goal.loop-place-preserved
loop-place-preserved c =
    let s = meant c.args.self.now.sheet in
    let k = c.loop-place.place in
    let (many, old) = c.loop-place.invariant in (
      length-set c.loop-place.reaches k c.reach_around.result ∙ many,
      fill_on (λ j r. EnoughAround s (entry s j) r) no_reach c.loop-place.reaches k c.reach_around.result
          (omega (arith, c.args.self.now.sheet.sound.few)) old c.reach_around.ensures,
    )

pub returns : goal.returns
returns c = record { places = c.loop-place.invariant.0; each = λ k l. c.loop-place.invariant.1 k (omega arith) }
