-- The line has the fixed parts of the entries before e.
use Rattle.std.proofs.Common.{◌≡◌, ℕ, ◌<◌, length, get_or}
use Rattle.model.specs.Total.{total}
use Rattle.model.specs.Sheets.{entry, horizon}
use Rattle.model.specs.TimeTable.{fixed_at}
use Rattle.sheet.specs.Listed.{meant}
use Rattle.time_table_rule.proofs.usage.usage_line.Given as goal

abbrev pub invariant-loop-e : goal.invariant-loop-e
invariant-loop-e l = (length l.line ≡ horizon)
    × ((t : ℕ) → t < horizon → get_or l.line t 0 ≡ total l.e-index (λ k. fixed_at t (entry (meant l.fn.sheet) k)))
