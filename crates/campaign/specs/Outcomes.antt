-- Loading a file into a board has one outcome, and no other.
use Rattle.std.specs.Prelude.{◌≡◌, ℕ, List, Result}
use Rattle.board.specs.Calls.{Bookings}
use Rattle.campaign.specs.declared.faults.Fault.{Fault}
use Rattle.campaign.specs.Loads.{Loads}

-- Every file can be loaded into every board: something is answered, and something is left.
abbrev pub SomeOutcome : Type 0
SomeOutcome = (file : List ℕ) (before : Bookings) → (r : Result (Unit {0}) Fault) × (after : Bookings) × Loads file before r after

-- Two ways to load a file into a board answer the same and leave the same.
abbrev pub OneOutcome : Type 0
OneOutcome =
    (file : List ℕ) (before a b : Bookings) (r s : Result (Unit {0}) Fault) → Loads file before r a → Loads file before s b → (r ≡ s) × (a ≡ b)
