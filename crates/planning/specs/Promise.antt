-- What every plan keeps.
use Rattle.std.specs.Prelude.{◌≡◌, ℕ, ◌+◌, ◌<◌, ◌≤◌, ◌↔◌, List, map, length, Ok}
use Rattle.model.specs.Energy.{NegativeSomewhere}
use Rattle.model.specs.Limits.{row_at}
use Rattle.model.specs.Sheets.{Placement, NoPlacement, Elastic, Tight, capacity_max}
use Rattle.board.specs.declared.answers.Verdict.TheVariants.{Settled}
use Rattle.board.specs.declared.answers.Swept.{Swept}
use Rattle.board.specs.declared.bookings.Test.{Test}
use Rattle.board.specs.Calls.{Bookings, FitsIn, built, row_of}
use Rattle.campaign.specs.Loads.{Loads}
use Rattle.runs.specs.Applying.{as_entered, at_present}
use Rattle.runs.specs.Applying as applying
use Rattle.runs.specs.Runs.{Event, Run, enter, calls_of}
use Rattle.runs.specs.Sweeping.{SweepsTo, ends_as, spare}
use Rattle.planning.specs.Asked.{AsksFor}
use Rattle.planning.specs.Plans.{TES, Plans}

-- ---- the board that a file is loaded into

-- A board of these tests, a row for each in their order: it is built with a capacity within the limits, and the tests are entered one by one.
pub record Entered (tests : List Test) (loaded : Bookings) : Type 0 where
  pub some_capacity : 1 ≤ loaded.capacity
  pub small_capacity : loaded.capacity ≤ capacity_max
  pub rows : loaded.rows ≡ map row_of tests
  pub events : List Event
  pub calls : calls_of events ≡ map enter tests
  pub run : Run (built loaded.capacity) events loaded

-- Whatever the board held, a file that is loaded leaves a board of the capacity and of the tests that the file asks for. As this board is
-- made by calls, what every run of calls keeps holds of it, and of the sweep that comes next.
abbrev pub EveryLoadEntersTheTestsOfItsFile : Type 0
EveryLoadEntersTheTestsOfItsFile = (file : List ℕ) (before loaded : Bookings) → Loads file before (Ok tt) loaded →
    (tests : List Test) × AsksFor file loaded.capacity tests × Entered tests loaded

-- ---- the plan

-- What is true of a plan: `loaded` is the board of the file's tests, `swept` the answer of the sweep, and `after` the board left.
pub record Faithful (loaded : Bookings) (swept : Swept) (after : Bookings) : Type 0 where
  -- the sweep starts from the windows of the file
  pub fresh : at_present loaded ≡ as_entered loaded
  -- each row left is the row loaded at its place; its present window may differ, and nothing else
  pub rows : applying.Writes (λ k. (row_at after.rows k).present) loaded after
  -- the window left to a test lies inside the window of the file, and has room for the duration
  pub inside : (k : ℕ) → k < length loaded.rows → FitsIn (row_at loaded.rows k) (row_at after.rows k).present
  -- the placements of the windows of the file are exactly the placements of the windows left
  pub same : (start : ℕ → ℕ) → Placement (as_entered loaded) start ↔ Placement (at_present after) start
  -- overfull and squeezed are answered only where the windows of the file have no placement
  pub honest : ¬ (swept.verdict ≡ Settled) → NoPlacement (as_entered loaded)
  -- settled is answered only where the windows left have an elastic schedule, elastic schedules reach both ends of each window,
  -- and no interval has negative slack
  pub fits : swept.verdict ≡ Settled → Elastic (at_present after)
  pub tight : swept.verdict ≡ Settled → Tight (at_present after)
  pub slack : swept.verdict ≡ Settled → ¬ NegativeSomewhere (at_present after)
  -- where the plan is settled, another sweep settles at once and leaves the board as it is
  pub stays : swept.verdict ≡ Settled → SweepsTo TES after (ends_as Settled) after
  -- the sweep takes at most one round more than there are slots to spare in the windows of the file
  pub bound : swept.rounds ≤ 1 + spare loaded

-- Whatever the file, and whatever the board held: where the file is loaded and swept, the plan is faithful to the file.
abbrev pub EveryPlanKeepsItsPromise : Type 0
EveryPlanKeepsItsPromise = (file : List ℕ) (before loaded : Bookings) (swept : Swept) (after : Bookings) →
    Loads file before (Ok tt) loaded → SweepsTo TES loaded swept after → Faithful loaded swept after

-- Every file has one text, whatever the board holds; and on every board it has a plan, which has this text, and no other plan.
abbrev pub EveryFileHasOnePlan : Type 0
EveryFileHasOnePlan = (file : List ℕ) → (text : List ℕ)
    × ((before : Bookings) → (after : Bookings) × Plans file before text after
    × ((text' : List ℕ) (after' : Bookings) → Plans file before text' after' → (text' ≡ text) × (after' ≡ after)))
