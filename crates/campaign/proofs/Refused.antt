-- A refused call leaves the board as it was.
use Rattle.std.proofs.Common.{ℕ, Err}
use Rattle.board.specs.declared.bookings.Test.{Test}
use Rattle.board.specs.declared.refusals.Refusal.{Refusal}
use Rattle.board.specs.Calls.{Bookings, Builds, too_small, too_large, Enters, refuses}

pub build_refused : (b c : Bookings) (n : ℕ) (w : Refusal) → Builds b n (Err w) c → Builds b n (Err w) b
build_refused b c n w (too_small h) = too_small h
build_refused b c n w (too_large h) = too_large h

pub enter_refused : (b c : Bookings) (t : Test) (w : Refusal) → Enters b t (Err w) c → Enters b t (Err w) b
enter_refused b c t w (refuses v f) = refuses v f
