-- Every run keeps its promise.
use Rattle.std.proofs.Common.{◌≡◌, ℕ, List, Ok, Result, refl, arith}
use Rattle.std.specs.List.{AllByRecursion}
use Rattle.model.specs.declared.intervals.Interval.{Interval}
use Rattle.model.specs.Elastic.{IsE}
use Rattle.model.specs.Shift.{IsS}
use Rattle.model.specs.Rules.{Meaning, Lawful}
use Rattle.model.specs.Sheets.{NoPlacement}
use Rattle.board.specs.declared.answers.Effect.{Effect}
use Rattle.board.specs.declared.answers.Verdict.TheVariants.{Settled}
use Rattle.board.specs.declared.answers.Swept.{Swept}
use Rattle.board.specs.declared.refusals.Refusal.{Refusal}
use Rattle.board.specs.Calls.{Bookings, SoundBookings}
use Rattle.runs.specs.Applying.{as_entered}
use Rattle.runs.specs.Sweeping.{Application, GoesOn}
use Rattle.runs.specs.Runs.{Rule, three, AppliesByLetter, named, unnamed, Call, sweep, Reply, applied, applied_by_letter, swept, Step, builds, enters, withdraws, rebooks, applies, applies_by_letter, sweeps, Event, Run, ends, next}
use Rattle.runs.specs.Promise.{Fails, overfull, squeezed, SaysNo, by_apply, by_letter, sweeps_overfull, sweeps_squeezed, Settles, settled, SweepsWith, first, second, third, ExactE, ExactS, EventKeeps, EveryRunKeepsItsPromise}
use Rattle.runs.proofs.Boards.{widen}
use Rattle.runs.proofs.Applied.{Kept, kept_same, applied_keeps, applied_honest, applied_exact_E, applied_exact_S, quiet_tight}
use Rattle.runs.proofs.Rounds.{Calm}
use Rattle.runs.proofs.Swept.{sweep_keeps, sweep_each, sweep_honest, settled_calm}
use Rattle.board.proofs.Sound.{entered_sound, withdrawn_sound, rebooked_sound}
use Rattle.runs.proofs.Stepping.{Placed, built_sound, built_placed, building, building_placed, entering_placed, withdrawing_placed, rebooking_placed}
use Rattle.runs.proofs.Letters.{named_lawful}

pub lawful_three : (r1 r2 r3 : Rule) → AllByRecursion Lawful (three r1 r2 r3)
lawful_three r1 r2 r3 = (r1.lawful, (r2.lawful, (r3.lawful, tt)))

pub by_letter_keeps : (letter : ℕ) (b : Bookings) → SoundBookings b → {chain : List Application} {r : Result (Effect Interval) Refusal} {c : Bookings} →
    AppliesByLetter letter b chain r c → Kept b c
by_letter_keeps letter b sound (named {rule} x a) = applied_keeps rule (named_lawful x) b sound a
by_letter_keeps letter b sound (unnamed none) = kept_same b sound

-- ---- the limits, and the placements

pub step_sound : {b c : Bookings} {call : Call} {chain : List Application} {reply : Reply} → SoundBookings b → Step b call chain reply c → SoundBookings c
step_sound {b} sound (builds h) = building b sound h
step_sound {b} sound (enters h) = entered_sound b sound h
step_sound {b} sound (withdraws h) = withdrawn_sound b sound h
step_sound {b} sound (rebooks h) = rebooked_sound b sound h
step_sound {b} sound (applies {rule} h) = (applied_keeps rule.means rule.lawful b sound h).sound
step_sound {b} sound (applies_by_letter {letter} h) = (by_letter_keeps letter b sound h).sound
step_sound {b} sound (sweeps {r1} {r2} {r3} h) = (sweep_keeps (three r1 r2 r3) (lawful_three r1 r2 r3) sound h).sound

kept_placed : (b c : Bookings) → Placed b → Kept b c → Placed c
kept_placed b c placed kept start p = kept.placed start (placed start (rw kept.entered at p))

step_placed : {b c : Bookings} {call : Call} {chain : List Application} {reply : Reply} → SoundBookings b → Placed b → Step b call chain reply c → Placed c
step_placed {b} sound placed (builds h) = building_placed b placed h
step_placed {b} sound placed (enters h) = entering_placed b placed h
step_placed {b} sound placed (withdraws h) = withdrawing_placed b placed h
step_placed {b} sound placed (rebooks h) = rebooking_placed b placed h
step_placed {b} {c} sound placed (applies {rule} h) = kept_placed b c placed (applied_keeps rule.means rule.lawful b sound h)
step_placed {b} {c} sound placed (applies_by_letter {letter} h) = kept_placed b c placed (by_letter_keeps letter b sound h)
step_placed {b} {c} sound placed (sweeps {r1} {r2} {r3} h) = kept_placed b c placed (sweep_keeps (three r1 r2 r3) (lawful_three r1 r2 r3) sound h)

-- ---- what the answers say

fails_on : {e : Effect Interval} → Fails e → GoesOn e → ⊥
fails_on (overfull i) on = elim on [ ]
fails_on (squeezed k) on = elim on [ ]

apply_says : {e : Effect Interval} → SaysNo (applied e) → GoesOn e → ⊥
apply_says (by_apply e f) on = fails_on f on

letter_says : {e : Effect Interval} → SaysNo (applied_by_letter (Ok e)) → GoesOn e → ⊥
letter_says (by_letter e f) on = fails_on f on

sweep_says : {s : Swept} → SaysNo (swept s) → s.verdict ≡ Settled → ⊥
sweep_says (sweeps_overfull letter rounds i) e = let z : ◌≡◌ {A = ℕ} 0 1 = cc in omega arith
sweep_says (sweeps_squeezed letter rounds k) e = let z : ◌≡◌ {A = ℕ} 0 1 = cc in omega arith

settles_says : {s : Swept} → Settles (swept s) → s.verdict ≡ Settled
settles_says (settled rounds) = refl

among : (P : Meaning → Type 0) {r r1 r2 r3 : Rule} → SweepsWith r (sweep r1 r2 r3) → AllByRecursion P (three r1 r2 r3) → P r.means
among P first each = each.0
among P second each = each.1.0
among P third each = each.1.1.0

-- ---- one call

letter_keeps : (letter : ℕ) (b : Bookings) → SoundBookings b → Placed b → {chain : List Application} {r : Result (Effect Interval) Refusal} {c : Bookings} →
    AppliesByLetter letter b chain r c →
    (SaysNo (applied_by_letter r) → NoPlacement (as_entered b))
    × AllByRecursion (λ a. IsE a.rule → ExactE a) chain × AllByRecursion (λ a. IsS a.rule → ExactS a) chain
letter_keeps letter b sound placed (named {rule} x a) = (
  λ no start p. letter_says no (applied_honest rule (named_lawful x) b sound a start (placed start p)),
  (applied_exact_E rule (named_lawful x) b sound a, tt),
  (applied_exact_S rule (named_lawful x) b sound a, tt),
)
letter_keeps letter b sound placed (unnamed none) = (λ no. elim no [ ], tt, tt)

pub step_keeps : {b c : Bookings} {call : Call} {chain : List Application} {reply : Reply} → SoundBookings b → Placed b → Step b call chain reply c →
    EventKeeps (record { before = b; call = call; applications = chain; reply = reply; after = c })
step_keeps sound placed (builds h) = record { honest = λ x. elim x [ ]; exact_E = tt; exact_S = tt; tight = λ rule is w. elim w [ ] }
step_keeps sound placed (enters h) = record { honest = λ x. elim x [ ]; exact_E = tt; exact_S = tt; tight = λ rule is w. elim w [ ] }
step_keeps sound placed (withdraws h) = record { honest = λ x. elim x [ ]; exact_E = tt; exact_S = tt; tight = λ rule is w. elim w [ ] }
step_keeps sound placed (rebooks h) = record { honest = λ x. elim x [ ]; exact_E = tt; exact_S = tt; tight = λ rule is w. elim w [ ] }
step_keeps {b} sound placed (applies {rule} h) =
    record {
      honest = λ x start p. apply_says x (applied_honest rule.means rule.lawful b sound h start (placed start p));
      exact_E = (applied_exact_E rule.means rule.lawful b sound h, tt);
      exact_S = (applied_exact_S rule.means rule.lawful b sound h, tt);
      tight = λ r is w. elim w [ ];
    }
step_keeps {b} sound placed (applies_by_letter {letter} h) =
    let (honest, e, s) = letter_keeps letter b sound placed h in
    record { honest = honest; exact_E = e; exact_S = s; tight = λ r is w. elim w [ ] }
step_keeps {b} {c} sound placed (sweeps {r1} {r2} {r3} h) =
    let rules = three r1 r2 r3 in
    let laws = lawful_three r1 r2 r3 in
    record {
      honest = λ x start p. sweep_says x (sweep_honest rules laws sound h start (placed start p));
      exact_E = sweep_each rules laws (λ a. IsE a.rule → ExactE a) (λ rule law d good e d' g. applied_exact_E rule law d good g) sound h;
      exact_S = sweep_each rules laws (λ a. IsS a.rule → ExactS a) (λ rule law d good e d' g. applied_exact_S rule law d good g) sound h;
      tight = λ r is w x.
          let calm = settled_calm rules laws h (settles_says x) in
          let mine = among (Calm c) w calm in
          quiet_tight r.means r.lawful c (sweep_keeps rules laws sound h).sound mine.applied is;
    }

-- ---- a run

run_keeps : {b c : Bookings} {events : List Event} → SoundBookings b → Placed b → Run b events c → SoundBookings c × Placed c × AllByRecursion EventKeeps events
run_keeps sound placed ends = (sound, placed, tt)
run_keeps sound placed (next step more) =
    let rest = run_keeps (step_sound sound step) (step_placed sound placed step) more in
    (rest.0, rest.1, (step_keeps sound placed step, rest.2))

pub every_run_keeps_its_promise : EveryRunKeepsItsPromise
every_run_keeps_its_promise capacity low high events b run =
    let (sound, placed, kept) = run_keeps (built_sound capacity low high) (built_placed capacity) run in
    (sound, λ start. (placed start, widen b sound start), kept)
