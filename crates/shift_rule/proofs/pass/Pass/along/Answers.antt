-- One entry more.
use Rattle.std.proofs.Common.{below_more}
use Rattle.model.specs.Sheets.{entry}
use Rattle.shift_rule.specs.Found.{AllAccounted}
use Rattle.shift_rule.specs.Passes.{sheet_in}
use Rattle.shift_rule.proofs.Onward.{then, back, grown, all_still}
use Rattle.shift_rule.proofs.pass.Pass.along.Goals as goal

pub loop-place-preserved : goal.loop-place-preserved
loop-place-preserved g c =
    let p = c.args.self.now in
    let q = c.loop-place.self in
    let w = c.account.new.pass in
    let s = sheet_in p in
    let made = g.S.Side.made c.args.side.now in
    let i = c.loop-place.place in
    let (on, done) = c.loop-place.invariant in
    let more = c.account.ensures.onward in (
      then p q w on more,
      below_more (λ j. AllAccounted s w.found (made (entry s j))) i
          (λ j l. all_still s q.found w.found (grown p q w on more) (made (entry s j)) (done j l))
          (back p q (λ z. AllAccounted z w.found (made (entry z i))) on c.account.ensures.accounted),
    )
