-- The pass went on, and has accounted for what the side makes with the entries so far.
use Rattle.std.proofs.Common.{ℕ, ◌<◌}
use Rattle.model.specs.Sheets.{entry}
use Rattle.shift_rule.specs.Found.{AllAccounted}
use Rattle.shift_rule.specs.Passes.{sheet_in, Onward}
use Rattle.shift_rule.proofs.pass.Pass.along.Given as goal

abbrev pub invariant-loop-place : goal.invariant-loop-place
invariant-loop-place g l =
    Onward l.initial.self l.self
    × ((j : ℕ) → j < l.place → AllAccounted (sheet_in l.initial.self) l.self.found (g.S.Side.made l.side (entry (sheet_in l.initial.self) j)))
