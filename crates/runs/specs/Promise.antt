-- What every run of calls keeps.
use Rattle.std.specs.Prelude.{◌≡◌, ℕ, ◌+◌, ◌≤◌, ◌↔◌, List, Ok}
use Rattle.std.specs.List.{AllByRecursion}
use Rattle.model.specs.declared.intervals.Interval.{Interval}
use Rattle.model.specs.Sheets.{Placement, NoPlacement, Elastic, Tight, capacity_max}
use Rattle.model.specs.Energy.{NegativeSomewhere}
use Rattle.model.specs.Elastic.{IsE}
use Rattle.model.specs.Shift.{IsS}
use Rattle.board.specs.declared.answers.Effect.{Effect}
use Rattle.board.specs.declared.answers.Effect.TheVariants.{Overfull, Squeezed}
use Rattle.board.specs.declared.answers.Verdict.TheVariants as verdict
use Rattle.board.specs.declared.answers.Swept.{Swept}
use Rattle.board.specs.Calls.{Bookings, SoundBookings, built}
use Rattle.runs.specs.Applying.{as_entered, at_present}
use Rattle.runs.specs.Sweeping.{Application, Sweeps, spare}
use Rattle.runs.specs.Runs.{Rule, three, Call, sweep, Reply, applied, applied_by_letter, swept, Step, Event, Run, calls_of}

-- An effect that is overfull.
pub data IsOverfull : Effect Interval → Type 0 where
  told : (i : Interval) → IsOverfull (Overfull i)

-- An effect that is overfull or squeezed.
pub data Fails : Effect Interval → Type 0 where
  overfull : (i : Interval) → Fails (Overfull i)
  squeezed : (k : ℕ) → Fails (Squeezed k)

-- A reply of an apply, or of a sweep, that is overfull or squeezed.
pub data SaysNo : Reply → Type 0 where
  by_apply : (e : Effect Interval) → Fails e → SaysNo (applied e)
  by_letter : (e : Effect Interval) → Fails e → SaysNo (applied_by_letter (Ok e))
  sweeps_overfull : (letter rounds : ℕ) (i : Interval) → SaysNo (swept (record { verdict = verdict.Overfull letter i; rounds = rounds }))
  sweeps_squeezed : (letter rounds k : ℕ) → SaysNo (swept (record { verdict = verdict.Squeezed letter k; rounds = rounds }))

-- A reply of a sweep that is settled.
pub data Settles : Reply → Type 0 where
  settled : (rounds : ℕ) → Settles (swept (record { verdict = verdict.Settled; rounds = rounds }))

-- A sweep with the rule among its three.
pub data SweepsWith (rule : Rule) : Call → Type 0 where
  first : {r2 r3 : Rule} → SweepsWith rule (sweep rule r2 r3)
  second : {r1 r3 : Rule} → SweepsWith rule (sweep r1 rule r3)
  third : {r1 r2 : Rule} → SweepsWith rule (sweep r1 r2 rule)

-- E is exact in an application: overfull only where the windows found have no elastic schedule, and else they have one.
pub record ExactE (a : Application) : Type 0 where
  pub overfull : IsOverfull a.effect → ¬ Elastic (at_present a.found)
  pub else : ¬ IsOverfull a.effect → Elastic (at_present a.found)

-- S is exact in an application: overfull exactly where, in the windows found, some interval, candidate or not, has negative slack.
abbrev pub ExactS : Application → Type 0
ExactS a = IsOverfull a.effect ↔ NegativeSomewhere (at_present a.found)

-- What one call of a run keeps.
pub record EventKeeps (event : Event) : Type 0 where
  -- overfull and squeezed are answered only where the windows as entered by then have no placement
  pub honest : SaysNo event.reply → NoPlacement (as_entered event.before)
  -- each time E is applied, alone or within a sweep, it is exact
  pub exact_E : AllByRecursion (λ a. IsE a.rule → ExactE a) event.applications
  -- each time S is applied, alone or within a sweep, it is exact
  pub exact_S : AllByRecursion (λ a. IsS a.rule → ExactS a) event.applications
  -- a sweep with E among its rules that settles leaves windows whose ends elastic schedules reach
  pub tight : (rule : Rule) → IsE rule.means → SweepsWith rule event.call → Settles event.reply → Tight (at_present event.after)

-- The placements of the windows as entered are exactly the placements of the present windows.
abbrev pub SamePlacements : Bookings → Type 0
SamePlacements b = (start : ℕ → ℕ) → Placement (as_entered b) start ↔ Placement (at_present b) start

-- After every run from a newly built board, the board is within the limits, no placement is lost, and every call kept its promise.
abbrev pub EveryRunKeepsItsPromise : Type 0
EveryRunKeepsItsPromise = (capacity : ℕ) → 1 ≤ capacity → capacity ≤ capacity_max →
    (events : List Event) (b : Bookings) → Run (built capacity) events b → SoundBookings b × SamePlacements b × AllByRecursion EventKeeps events

-- Every call on every board has a step, and one only.
abbrev pub EveryCallHasOneStep : Type 0
EveryCallHasOneStep = (b : Bookings) → SoundBookings b → (call : Call) →
    (chain : List Application) × (reply : Reply) × (after : Bookings) × Step b call chain reply after
    × ((chain' : List Application) (reply' : Reply) (after' : Bookings) → Step b call chain' reply' after' →
    (chain' ≡ chain) × (reply' ≡ reply) × (after' ≡ after))

-- Every list of calls on every board has a run, and one only.
abbrev pub EveryListOfCallsHasOneRun : Type 0
EveryListOfCallsHasOneRun = (b : Bookings) → SoundBookings b → (calls : List Call) →
    (events : List Event) × (after : Bookings) × Run b events after × (calls_of events ≡ calls)
    × ((events' : List Event) (after' : Bookings) → Run b events' after' → calls_of events' ≡ calls → (events' ≡ events) × (after' ≡ after))

-- Every sweep ends after at most one round more than there are slots to spare at its start.
abbrev pub EverySweepEndsInTime : Type 0
EverySweepEndsInTime = (b : Bookings) → SoundBookings b → (r1 r2 r3 : Rule) →
    (chain : List Application) (s : Swept) (after : Bookings) → Sweeps (three r1 r2 r3) b chain s after → s.rounds ≤ 1 + spare b
