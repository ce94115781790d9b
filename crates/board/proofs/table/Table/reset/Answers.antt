-- One row more is reset at each turn.
use Rattle.std.proofs.Common.{◌<◌, length, set, ap, ◌∙◌, arith}
use Rattle.std.proofs.lemmas.List.{get_or_default}
use Rattle.std.proofs.lemmas.List.Edits.{map_over_more}
use Rattle.model.specs.Changes.{reset}
use Rattle.model.specs.Limits.{row_at, no_row}
use Rattle.board.proofs.table.Table.reset.Goals as goal

pub loop-row-preserved : goal.loop-row-preserved
loop-row-preserved c =
    let xs = c.deref_mut-row-items.result.now in
    let ys = c.loop-row.row-items in
    let i = c.loop-row.row-index in
    let row = row_at ys i in
    let inside : i < length ys = omega arith in
    ap (set ys i) c.reset.ensures ∙ map_over_more reset xs ys i row c.loop-row-test.true c.loop-row.invariant (get_or_default ys i no_row row inside)
