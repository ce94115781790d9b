-- The lines of the rows before the present one are written.
use Rattle.std.proofs.Common.{◌≡◌, ◌+◌, ◌*◌, ◌≤◌, ◌++◌, drop}
use Rattle.arrayvec.specs.ArrayString.{array_string_len}
use Rattle.report.specs.Lines.{row_lines}
use Rattle.report.proofs.lines.rows.Given as goal

abbrev pub invariant-loop-row : goal.invariant-loop-row
invariant-loop-row l =
    (l.text.bytes ++ row_lines (drop l.row-index l.rows) ≡ l.initial.text.bytes ++ row_lines l.rows)
    × (array_string_len l.text ≤ array_string_len l.initial.text + 84 * l.row-index)
