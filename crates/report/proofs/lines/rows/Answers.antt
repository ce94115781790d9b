-- One line more at each turn, and all of them at the end.
use Rattle.std.proofs.Common.{◌≡◌, ◌+◌, [], ◌++◌, drop, sym, ap, ◌∙◌, append_assoc, append-nil, arith}
use Rattle.std.proofs.lemmas.List.{at_drop_more, at_drop_all}
use Rattle.model.specs.Limits.{row_at, no_row}
use Rattle.report.specs.Lines.{row_line, row_lines}
use Rattle.report.proofs.lines.rows.Goals as goal

pub loop-row-preserved : goal.loop-row-preserved
unfolding row_lines
loop-row-preserved c =
    let rows = c.args.rows.now in
    let i = c.loop-row.row-index in
    let here = row_line (row_at rows i) in
    let rest = row_lines (drop (i + 1) rows) in
    let split : row_lines (drop i rows) ≡ here ++ rest = at_drop_more row_lines rows i no_row c.loop-row-test.true in
    let joined = append_assoc c.loop-row.text.bytes here rest in
    (ap (λ t. t ++ rest) c.write.ensures.bytes ∙ joined ∙ ap (λ t. c.loop-row.text.bytes ++ t) (sym split) ∙ c.loop-row.invariant.0, omega arith)

pub returns-clause-bytes : goal.returns-clause-bytes
unfolding row_lines
returns-clause-bytes c =
    let none : row_lines (drop c.loop-row.row-index c.args.rows.now) ≡ [] = at_drop_all row_lines c.args.rows.now c.loop-row.row-index c.loop-row-test.false in
    sym (append-nil c.loop-row.text.bytes) ∙ ap (λ t. c.loop-row.text.bytes ++ t) (sym none) ∙ c.loop-row.invariant.0
