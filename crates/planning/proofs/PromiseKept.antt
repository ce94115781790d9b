-- Every plan keeps its promise.
use Rattle.std.proofs.Common.{◌≡◌, ℕ, ◌<◌, List, [], ◌∷◌, map, length, sym, refl, ap, subst, arith}
use Rattle.std.specs.List.{AllByRecursion}
use Rattle.model.specs.declared.rows.Row.{Row}
use Rattle.model.specs.Energy.{NegativeSomewhere}
use Rattle.model.specs.Limits.{row_at}
use Rattle.model.specs.Rules.{Meaning, Lawful}
use Rattle.model.specs.Sheets.{Sheet, Placement, Elastic}
use Rattle.board.specs.declared.answers.Effect.TheVariants.{Quiet}
use Rattle.board.specs.declared.answers.Verdict.TheVariants.{Settled}
use Rattle.board.specs.declared.answers.Swept.{Swept}
use Rattle.board.specs.declared.bookings.Test.{Test}
use Rattle.board.specs.Calls.{Bookings, SoundBookings, FitsIn, row_of}
use Rattle.timetable.specs.Meaning.{meaning_T}
use Rattle.elastic.specs.Meaning.{meaning_E}
use Rattle.shift.specs.Meaning.{meaning_S}
use Rattle.shift.proofs.RuleS.{s_keeps_the_law}
use Rattle.elastic.proofs.Law.{e_keeps_the_law}
use Rattle.runs.specs.Applying.{in_window, entered_entries, present_entries, as_entered, at_present, Applies}
use Rattle.runs.specs.Promise.{IsOverfull}
use Rattle.runs.specs.Sweeping.{Application, after_quiet, done, then, Sweeps, settles, ends_as, SweepsTo}
use Rattle.runs.proofs.Applied.{applied_exact_E, applied_exact_S, quiet_tight}
use Rattle.runs.proofs.Boards.{widen}
use Rattle.runs.proofs.Letters.{lawful_T, lawful_E, lawful_S}
use Rattle.runs.proofs.Rounds.{Calm}
use Rattle.runs.proofs.Running.{every_run_keeps_its_promise}
use Rattle.runs.proofs.Spare.{quiet_same}
use Rattle.runs.proofs.Swept.{sweep_keeps, sweep_honest, settled_calm, sweep_in_time}
use Rattle.planning.specs.Plans.{TES}
use Rattle.planning.specs.Promise.{Entered, Faithful, EveryPlanKeepsItsPromise}
use Rattle.planning.proofs.TestsEntered.{every_load_enters_the_tests}
use Rattle.planning.proofs.RowsKept.{swept_same}

pub laws : AllByRecursion Lawful TES
laws = (lawful_T, (lawful_E, (lawful_S, tt)))

-- a row that was just entered has its two windows the same
windows_same : (tests : List Test) →
    map (λ (row : Row). in_window row row.present) (map row_of tests) ≡ map (λ (row : Row). in_window row row.entered) (map row_of tests)
windows_same [] = refl
windows_same (t ∷ tests) = ap (λ es. in_window (row_of t) (row_of t).entered ∷ es) (windows_same tests)

entered_fresh : (tests : List Test) (b : Bookings) → Entered tests b → at_present b ≡ as_entered b
unfolding entered_entries present_entries
entered_fresh tests b e =
    let same : present_entries b.rows ≡ entered_entries b.rows =
    subst (λ rows. present_entries rows ≡ entered_entries rows) (sym e.rows) (windows_same tests) in
    ap (λ es. record { capacity = b.capacity; entries = es }) same

pub entered_sound : (tests : List Test) (b : Bookings) → Entered tests b → SoundBookings b
entered_sound tests b e = (every_run_keeps_its_promise b.capacity e.some_capacity e.small_capacity e.events b e.run).0

unsaid : ¬ IsOverfull Quiet
unsaid x = elim x [ ]

-- where E is quiet there is an elastic schedule
quiet_fits : (b c : Bookings) → SoundBookings b → Applies meaning_E b Quiet c → Elastic (at_present b)
quiet_fits b c sound a = (applied_exact_E meaning_E lawful_E b sound a e_keeps_the_law.0).else unsaid

-- where S is quiet no interval has negative slack
quiet_slack : (b c : Bookings) → SoundBookings b → Applies meaning_S b Quiet c → ¬ NegativeSomewhere (at_present b)
quiet_slack b c sound a negative = unsaid ((applied_exact_S meaning_S lawful_S b sound a s_keeps_the_law.0).1 negative)

-- a rule that is quiet leaves the board as it is
calm_here : (rule : Meaning) (b : Bookings) → Calm b rule → Applies rule b Quiet b
calm_here rule b c = subst (λ (x : Bookings). Applies rule b Quiet x) (quiet_same rule b c.left c.applied) c.applied

-- where all three are quiet, a sweep settles at once
calm_stays : (b : Bookings) → AllByRecursion (Calm b) TES → SweepsTo TES b (ends_as Settled) b
calm_stays b (t, (e, (s, _))) = (
  _,
  settles
      (then (calm_here meaning_T b t) after_quiet (then (calm_here meaning_E b e) after_quiet (then (calm_here meaning_S b s) after_quiet done)))
      (refl, (refl, (refl, tt))),
)

module _ (loaded after : Bookings) (swept : Swept) (sound : SoundBookings loaded) (fresh : at_present loaded ≡ as_entered loaded)
    (chain : List Application) (sweeps : Sweeps TES loaded chain swept after) where
  there : (start : ℕ → ℕ) → Placement (as_entered loaded) start → Placement (at_present loaded) start
  there start p = subst (λ (s : Sheet). Placement s start) (sym fresh) p

  left_sound : SoundBookings after
  left_sound = (sweep_keeps TES laws sound sweeps).sound

  back : (start : ℕ → ℕ) → Placement (at_present after) start → Placement (as_entered loaded) start
  back start p = subst (λ (s : Sheet). Placement s start) (sweep_keeps TES laws sound sweeps).entered (widen after left_sound start p)

  calm : swept.verdict ≡ Settled → AllByRecursion (Calm after) TES
  calm e = settled_calm TES laws sweeps e

  left_inside : (k : ℕ) → k < length loaded.rows → FitsIn (row_at loaded.rows k) (row_at after.rows k).present
  left_inside k l =
      let same = swept_same sweeps in
      let window = left_sound.sound.windowed k (omega (arith, same.places)) in
      let release = ap (λ (row : Row). row.entered.release) (same.each k l) in
      let deadline = ap (λ (row : Row). row.entered.deadline) (same.each k l) in
      let duration = ap (λ (row : Row). row.duration) (same.each k l) in
      record { later = omega arith; sooner = omega arith; room = omega arith }

  pub faithful : Faithful loaded swept after
  faithful =
      record {
        fresh = fresh;
        rows = swept_same sweeps;
        inside = left_inside;
        same = λ start. (λ p. (sweep_keeps TES laws sound sweeps).placed start (there start p), back start);
        honest = λ failed start p. failed (sweep_honest TES laws sound sweeps start (there start p));
        fits = λ e. quiet_fits after (calm e).1.0.left left_sound (calm e).1.0.applied;
        tight = λ e. quiet_tight meaning_E lawful_E after left_sound (calm e).1.0.applied e_keeps_the_law.0;
        slack = λ e. quiet_slack after (calm e).1.1.0.left left_sound (calm e).1.1.0.applied;
        stays = λ e. calm_stays after (calm e);
        bound = sweep_in_time TES laws sound sweeps;
      }

pub every_plan_keeps_its_promise : EveryPlanKeepsItsPromise
every_plan_keeps_its_promise file before loaded swept after loads (chain, sweeps) =
    let (tests, _, e) = every_load_enters_the_tests file before loaded loads in
    faithful loaded after swept (entered_sound tests loaded e) (entered_fresh tests loaded e) chain sweeps
