-- The sheet stays, and what the entries so far make with all entries is accounted for.
use Rattle.std.proofs.Common.{◌≡◌, ℕ, ◌<◌}
use Rattle.sheet.specs.Listed.{meant}
use Rattle.shift_rule.specs.Found.{AccountedAround}
use Rattle.shift_rule.specs.Passes.{sheet_in}
use Rattle.shift_rule.proofs.passes.go_through.Given as goal

abbrev pub invariant-loop-place : goal.invariant-loop-place
invariant-loop-place l =
    (sheet_in l.pass ≡ meant l.subject.movers.sheet) × ((i : ℕ) → i < l.place → AccountedAround (meant l.subject.movers.sheet) l.pass.found i)
