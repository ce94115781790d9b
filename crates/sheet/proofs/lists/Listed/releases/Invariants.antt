-- The releases before the place stand.
use Rattle.std.proofs.Common.{◌≡◌, ℕ, ◌<◌, length, slice_index}
use Rattle.model.specs.Sheets.{entry}
use Rattle.sheet.specs.Listed.{meant}
use Rattle.sheet.proofs.lists.Listed.releases.Given as goal

abbrev pub invariant-loop-place : goal.invariant-loop-place
invariant-loop-place l = (length l.releases ≡ 64) × ((k : ℕ) → k < l.place → slice_index l.releases k ≡ (entry (meant l.self) k).release)
