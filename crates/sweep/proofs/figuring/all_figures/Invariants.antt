-- The figures of the entries before i stand at their places.
use Rattle.std.proofs.Common.{◌≡◌, ℕ, ◌<◌, length}
use Rattle.runs.specs.Applying.{figures}
use Rattle.sweep.specs.Windows.{window_at}
use Rattle.sweep.proofs.figuring.all_figures.Given as goal

abbrev pub invariant-loop-place : goal.invariant-loop-place
invariant-loop-place g l =
    (length l.windows ≡ 64)
    × ((k : ℕ) → k < l.place → window_at l.windows k ≡ figures (g.R.Rule.means l.rule) (g.S.Sheet.meaning l.sheet) k)
