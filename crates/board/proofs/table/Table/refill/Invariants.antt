-- The rows before the place that is reached stand.
use Rattle.std.proofs.Common.{◌≡◌, ◌≤◌, take, vec_len, vec_capacity}
use Rattle.model.specs.Sheets.{rows_max}
use Rattle.board.proofs.table.Table.refill.Given as goal

abbrev pub invariant-loop-row : goal.invariant-loop-row
invariant-loop-row l =
    record {
      rows : l.self-inside.rows.items ≡ take l.row-index l.rows;
      count : vec_len l.self-inside.rows ≡ l.row-index;
      room : rows_max ≤ vec_capacity l.self-inside.rows;
    }
