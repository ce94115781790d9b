-- The calls on a board: what each may answer, and what the board then holds.
use Rattle.std.specs.Prelude.{◌≡◌, ℕ, ◌+◌, ◌-◌, ◌*◌, ◌<◌, ◌≤◌, List, [], ◌∷◌, ◌++◌, map, length, Ok, Err, Result, slice_set}
use Rattle.std.specs.List.{remove}
use Rattle.model.specs.declared.windows.Window.{Window}
use Rattle.model.specs.declared.rows.Pair.{Pair}
use Rattle.model.specs.declared.rows.Row.{Row}
use Rattle.model.specs.Sheets.{horizon, capacity_max, rows_max}
use Rattle.board.specs.declared.refusals.Refusal.{Refusal}
use Rattle.board.specs.declared.refusals.Refusal.TheVariants as refusal
use Rattle.board.specs.declared.bookings.Test.{Test}
use Rattle.board.specs.Refusals.{number_of}
use Rattle.model.specs.Limits.{profile_max, bearer_min, bearer_max, row_at, SoundRows}
use Rattle.model.specs.Changes.{reset, rebooked, narrowed}

-- What a board holds: its capacity, and its rows in order of entry.
pub record Bookings : Type 0 where
  pub capacity : ℕ
  pub rows : List Row

-- What holds of every board.
pub record SoundBookings (b : Bookings) : Type 0 where
  pub some_capacity : 1 ≤ b.capacity
  pub small_capacity : b.capacity ≤ capacity_max
  pub few : length b.rows ≤ rows_max
  pub sound : SoundRows b.capacity b.rows

-- What a call answers that is obeyed or refused.
abbrev pub Answer : Type 0
Answer = Result (Unit {0}) Refusal

-- Nothing is wrong.
abbrev pub Nothing : (Refusal → Type 0) → Type 0
Nothing Wrong = (w : Refusal) → ¬ Wrong w

-- Of what is wrong, w has the least number.
pub record First (Wrong : Refusal → Type 0) (w : Refusal) : Type 0 where
  pub wrong : Wrong w
  pub least : (v : Refusal) → Wrong v → number_of w ≤ number_of v

-- ---- build

-- A newly built board.
abbrev pub built : ℕ → Bookings
built capacity = record { capacity = capacity; rows = [] }

-- Build makes the board a new one of the given capacity; a capacity outside 1 to the greatest is refused.
pub data Builds (b : Bookings) (capacity : ℕ) : Answer → Bookings → Type 0 where
  makes : 1 ≤ capacity → capacity ≤ capacity_max → Builds b capacity (Ok tt) (built capacity)
  too_small : capacity < 1 → Builds b capacity (Err refusal.Capacity) b
  too_large : capacity_max < capacity → Builds b capacity (Err refusal.Capacity) b

-- ---- pairs

-- What is wrong with a pair, by the refusal.
pub data WrongPair (pair : Pair) : Refusal → Type 0 where
  profile : profile_max < pair.profile → WrongPair pair refusal.Profile
  bearer_low : pair.bearer < bearer_min → WrongPair pair refusal.Bearer
  bearer_high : bearer_max < pair.bearer → WrongPair pair refusal.Bearer

-- The place of a pair among all pairs within the limits, in the order of profiles and then of bearers.
abbrev pub place_of : Pair → ℕ
place_of pair = pair.profile * (bearer_max + 1 - bearer_min) + pair.bearer - bearer_min

-- Place answers the place of a pair; where the pair is wrong it refuses with the least number.
pub data Places (pair : Pair) : Result ℕ Refusal → Type 0 where
  stands : Nothing (WrongPair pair) → Places pair (Ok (place_of pair))
  misnamed : (w : Refusal) → First (WrongPair pair) w → Places pair (Err w)

-- The row at place k has the pair.
pub record StandsAt (pair : Pair) (rows : List Row) (k : ℕ) : Type 0 where
  pub inside : k < length rows
  pub named : (row_at rows k).pair ≡ pair

-- No row has the pair.
abbrev pub Free : Pair → List Row → Type 0
Free pair rows = (k : ℕ) → ¬ StandsAt pair rows k

-- ---- enter

-- A window that ends past the last slot, or that a duration does not fit.
pub data Misfit (duration release deadline : ℕ) : Type 0 where
  late : horizon < deadline → Misfit duration release deadline
  tight : deadline < release + duration → Misfit duration release deadline

-- What is wrong with a test, by the refusal.
pub data Wrong (b : Bookings) (t : Test) : Refusal → Type 0 where
  pair : (w : Refusal) → WrongPair t.pair w → Wrong b t w
  instant : t.duration < 1 → Wrong b t refusal.Duration
  long : horizon < t.duration → Wrong b t refusal.Duration
  idle : t.demand < 1 → Wrong b t refusal.Demand
  greedy : b.capacity < t.demand → Wrong b t refusal.Demand
  window : Misfit t.duration t.release t.deadline → Wrong b t refusal.Window
  taken : (k : ℕ) → StandsAt t.pair b.rows k → Wrong b t refusal.Taken
  full : rows_max ≤ length b.rows → Wrong b t refusal.Full

-- The row that a test makes: its present window is the entered one.
abbrev pub row_of : Test → Row
row_of t =
    record {
      pair = t.pair;
      duration = t.duration;
      demand = t.demand;
      entered = record { release = t.release; deadline = t.deadline };
      present = record { release = t.release; deadline = t.deadline };
    }

-- Enter adds a last row. A test that is wrong is refused with the least number of what is wrong with it, and the board stays.
pub data Enters (b : Bookings) (t : Test) : Answer → Bookings → Type 0 where
  adds : Nothing (Wrong b t) → Enters b t (Ok tt) (record { capacity = b.capacity; rows = b.rows ++ (row_of t ∷ []) })
  refuses : (w : Refusal) → First (Wrong b t) w → Enters b t (Err w) b

-- ---- withdraw and rebook

-- A board of the same capacity with these rows, every present window its entered one.
abbrev pub anew : Bookings → List Row → Bookings
anew b rows = record { capacity = b.capacity; rows = map reset rows }

-- Withdraw removes the row with the pair, and resets the others; where no row has the pair it is refused.
pub data Withdraws (b : Bookings) (pair : Pair) : Answer → Bookings → Type 0 where
  removes : (k : ℕ) → StandsAt pair b.rows k → Withdraws b pair (Ok tt) (anew b (remove b.rows k))
  unknown : Free pair b.rows → Withdraws b pair (Err refusal.Unknown) b

-- Rebook gives the row with the pair a new entered window, and resets the others; where no row has the pair it is refused,
-- and else where the window does not fit the row.
pub data Rebooks (b : Bookings) (pair : Pair) (release deadline : ℕ) : Answer → Bookings → Type 0 where
  moves : (k : ℕ) → StandsAt pair b.rows k → ¬ Misfit (row_at b.rows k).duration release deadline →
      Rebooks b pair release deadline (Ok tt)
      (anew b (slice_set b.rows k (rebooked (record { release = release; deadline = deadline }) (row_at b.rows k))))
  unknown : Free pair b.rows → Rebooks b pair release deadline (Err refusal.Unknown) b
  unfit : (k : ℕ) → StandsAt pair b.rows k → Misfit (row_at b.rows k).duration release deadline →
      Rebooks b pair release deadline (Err refusal.Window) b

-- ---- narrowing one row

-- A window lies inside the entered window of a row, and has room for its duration.
pub record FitsIn (row : Row) (w : Window) : Type 0 where
  pub later : row.entered.release ≤ w.release
  pub sooner : w.deadline ≤ row.entered.deadline
  pub room : w.release + row.duration ≤ w.deadline

-- There is a row at place k, and the window fits it.
pub record FitsAt (b : Bookings) (k : ℕ) (w : Window) : Type 0 where
  pub inside : k < length b.rows
  pub fits : FitsIn (row_at b.rows k) w

-- The board with the present window of the row at place k replaced, and all else the same.
abbrev pub narrowed_at : Bookings → ℕ → Window → Bookings
narrowed_at b k w = record { capacity = b.capacity; rows = slice_set b.rows k (narrowed w (row_at b.rows k)) }
