-- The rows before i have their windows, and those from i on are as they were.
use Rattle.std.proofs.Common.{◌≡◌, ℕ, ◌<◌, ◌≤◌, length}
use Rattle.model.specs.Changes.{narrowed}
use Rattle.model.specs.Limits.{row_at}
use Rattle.board.specs.Held.{bookings}
use Rattle.sweep.specs.Windows.{window_at}
use Rattle.sweep.proofs.writing.write.Given as goal

abbrev pub invariant-loop-place : goal.invariant-loop-place
invariant-loop-place l =
    ((bookings l.board).capacity ≡ (bookings l.initial.board).capacity)
    × (length (bookings l.board).rows ≡ length (bookings l.initial.board).rows)
    × ((k : ℕ) → k < l.place → row_at (bookings l.board).rows k ≡ narrowed (window_at l.windows k) (row_at (bookings l.initial.board).rows k))
    × ((k : ℕ) → l.place ≤ k → row_at (bookings l.board).rows k ≡ row_at (bookings l.initial.board).rows k)
