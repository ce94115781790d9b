-- The slots before the one at the index are raised.
use Rattle.std.proofs.Common.{◌≡◌, ℕ, ◌+◌, cond, ltb, get_or}
use Rattle.time_table_rule.proofs.usage.raise.Given as goal

abbrev pub invariant-loop-usage : goal.invariant-loop-usage
invariant-loop-usage l = (k : ℕ) → get_or l.usage-items k 0 ≡ get_or l.initial.usage-items k 0 + cond (ltb k l.usage-index) l.by 0
