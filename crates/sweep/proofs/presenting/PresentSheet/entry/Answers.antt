-- The row at the place, in its present window.
use Rattle.std.proofs.Common.{◌≡◌, ◌≤◌, ◌<◌, length, Some, sym, ap, ◌∙◌, arith}
use Rattle.std.proofs.lemmas.Bool.Decides.{nat_tests}
use Rattle.std.proofs.lemmas.List.{get_or_default}
use Rattle.model.specs.declared.rows.Row.{Row}
use Rattle.model.specs.Limits.{row_at, no_row}
use Rattle.model.proofs.At.{some_at, none_at}
use Rattle.runs.specs.Applying.{at_present, in_window}
use Rattle.runs.proofs.Boards.{present_count, present_at}
use Rattle.sweep.specs.Meant.{rows_of}
use Rattle.sweep.proofs.presenting.PresentSheet.entry.Goals as goal

pub returns-in_err-row : goal.returns-in_err-row
returns-in_err-row c =
    let b = rows_of c.args.self.now in
    let past : length b.rows ≤ c.args.place = grind (arith, nat_tests, c.in_err-row.ensures.lookup.0) in
    c.from_residual.ensures ∙ sym (none_at (at_present b) c.args.place (omega (arith, present_count b)))

pub returns : goal.returns
returns c =
    let b = rows_of c.args.self.now in
    let k = c.args.place in
    let r = c.in_ok-row.row.now in
    let inside : k < length b.rows = grind (arith, nat_tests, c.in_ok-row.ensures.lookup.0) in
    let here : r ≡ row_at b.rows k = c.in_ok-row.ensures.lookup.1 ∙ get_or_default b.rows k r no_row inside in
    ap (λ (x : Row). Some (in_window x x.present)) here
    ∙ ap Some (sym (present_at b k inside))
    ∙ sym (some_at (at_present b) k (omega (arith, present_count b, inside)))
