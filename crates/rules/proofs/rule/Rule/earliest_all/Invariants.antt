-- The earliest starts of the entries before i stand at their places.
use Rattle.std.proofs.Common.{◌≡◌, ℕ, ◌<◌, length, get_or, Some}
use Rattle.rules.proofs.rule.Rule.earliest_all.Given as goal

abbrev pub invariant-loop-i : goal.invariant-loop-i
invariant-loop-i g l = (length l.starts ≡ 64) × ((k : ℕ) → k < l.i → (g.Self.Rule.means l.self).earliest (g.S.Sheet.meaning l.sheet) k ≡ Some (get_or l.starts k 0))
