-- Every call has one step, every list of calls one run, and every sweep ends in time.
use Rattle.std.proofs.Common.{◌≡◌, ℕ, List, [], ◌∷◌, sym, refl, ap, ◌∙◌, subst, inl, inr, arith}
use Rattle.board.specs.Calls.{Bookings, SoundBookings}
use Rattle.runs.specs.Sweeping.{Application, application}
use Rattle.runs.specs.Runs.{three, named, unnamed, Call, build, enter, withdraw, rebook, apply, apply_by_letter, sweep, Reply, answered, applied, applied_by_letter, swept, Step, builds, enters, withdraws, rebooks, applies, applies_by_letter, sweeps, Event, Run, ends, next, calls_of}
use Rattle.runs.specs.Promise.{EveryCallHasOneStep, EveryListOfCallsHasOneRun, EverySweepEndsInTime}
use Rattle.runs.proofs.Judged.{build_once, enter_once, withdraw_once, rebook_once}
use Rattle.runs.proofs.Letters.{names?, by_letter_unique}
use Rattle.runs.proofs.Once.{applies_once, applies_unique}
use Rattle.runs.proofs.Running.{lawful_three, step_sound}
use Rattle.runs.proofs.Swept.{sweep_ends, sweeps_unique, sweep_in_time}

-- ---- a step

record Stepped (b : Bookings) (call : Call) : Type 0 where
  chain : List Application
  reply : Reply
  left : Bookings
  made : Step b call chain reply left

step_once : (b : Bookings) → SoundBookings b → (call : Call) → Stepped b call
step_once b sound (build n) = let o = build_once b n in record { chain = []; reply = _; left = _; made = builds o.made }
step_once b sound (enter t) = let o = enter_once b t in record { chain = []; reply = _; left = _; made = enters o.made }
step_once b sound (withdraw p) = let o = withdraw_once b sound p in record { chain = []; reply = _; left = _; made = withdraws o.made }
step_once b sound (rebook p r d) = let o = rebook_once b sound p r d in record { chain = []; reply = _; left = _; made = rebooks o.made }
step_once b sound (apply rule) = let (e, c, a) = applies_once rule.means b in record { chain = _; reply = _; left = _; made = applies a }
step_once b sound (apply_by_letter letter) =
    elim (names? letter) [
      | inl (rule, x) ↦ let (e, c, a) = applies_once rule b in record { chain = _; reply = _; left = _; made = applies_by_letter (named x a) }
      | inr none ↦ record { chain = _; reply = _; left = _; made = applies_by_letter (unnamed none) }
    ]
step_once b sound (sweep r1 r2 r3) =
    let o = sweep_ends (three r1 r2 r3) (lawful_three r1 r2 r3) b sound in record { chain = _; reply = _; left = _; made = sweeps o.made }

pub step_unique : {b c d : Bookings} {call : Call} {chain chain' : List Application} {reply reply' : Reply} → SoundBookings b →
    Step b call chain reply c → Step b call chain' reply' d → (chain ≡ chain') × (reply ≡ reply') × (c ≡ d)
step_unique {b} sound (builds {capacity = n} x) (builds y) =
    let o = build_once b n in let u = o.only _ _ x in let v = o.only _ _ y in (refl, ap answered (u.0 ∙ sym v.0), u.1 ∙ sym v.1)
step_unique {b} sound (enters {t} x) (enters y) =
    let o = enter_once b t in let u = o.only _ _ x in let v = o.only _ _ y in (refl, ap answered (u.0 ∙ sym v.0), u.1 ∙ sym v.1)
step_unique {b} sound (withdraws {pair = p} x) (withdraws y) =
    let o = withdraw_once b sound p in let u = o.only _ _ x in let v = o.only _ _ y in (refl, ap answered (u.0 ∙ sym v.0), u.1 ∙ sym v.1)
step_unique {b} sound (rebooks {pair = p} {release = r} {deadline = d} x) (rebooks y) =
    let o = rebook_once b sound p r d in let u = o.only _ _ x in let v = o.only _ _ y in (refl, ap answered (u.0 ∙ sym v.0), u.1 ∙ sym v.1)
step_unique {b} sound (applies {rule} x) (applies y) =
    let u = applies_unique rule.means b x y in (λ z. application rule.means b (u.0 z) ∷ [], ap applied u.0, u.1)
step_unique {b} sound (applies_by_letter {letter} x) (applies_by_letter y) =
    let u = by_letter_unique letter b x y in (u.0, ap applied_by_letter u.1, u.2)
step_unique {b} sound (sweeps {r1} {r2} {r3} x) (sweeps y) =
    let u = sweeps_unique (three r1 r2 r3) x y in (u.0, ap swept u.1, u.2)

pub every_call_has_one_step : EveryCallHasOneStep
every_call_has_one_step b sound call =
    let s = step_once b sound call in
    (s.chain, s.reply, s.left, s.made, λ chain reply after x. step_unique sound x s.made)

-- ---- a run

record Ran (b : Bookings) (calls : List Call) : Type 0 where
  events : List Event
  left : Bookings
  run : Run b events left
  made : calls_of events ≡ calls

run_once : (b : Bookings) → SoundBookings b → (calls : List Call) → Ran b calls
run_once b sound [] = record { events = []; left = b; run = ends; made = refl }
run_once b sound (call ∷ calls) =
    let s = step_once b sound call in
    let r = run_once s.left (step_sound sound s.made) calls in
    record { events = _; left = r.left; run = next s.made r.run; made = ap (λ cs. call ∷ cs) r.made }

run_unique : {b c d : Bookings} {events events' : List Event} → SoundBookings b → Run b events c → Run b events' d →
    calls_of events ≡ calls_of events' → (events ≡ events') × (c ≡ d)
run_unique sound ends ends e = (refl, refl)
run_unique sound ends (next step more) e = let z : ◌≡◌ {A = ℕ} 0 1 = cc in absurd (omega arith)
run_unique sound (next step more) ends e = let z : ◌≡◌ {A = ℕ} 0 1 = cc in absurd (omega arith)
run_unique {b} sound (next {b' = c} {call = call} {events = events} step more) (next {b' = d} {b'' = d''} {call = call'} {chain = chain'} {reply = reply'} {events = events'} step' more') e =
    let same : call ≡ call' = cc in
    let rest : calls_of events ≡ calls_of events' = cc in
    let u = step_unique sound step (subst (λ x. Step b x chain' reply' d) (sym same) step') in
    let r = run_unique (step_sound sound step) more (subst (λ x. Run x events' d'') (sym u.2) more') rest in
    (λ z. record { before = b; call = same z; applications = u.0 z; reply = u.1 z; after = u.2 z } ∷ r.0 z, r.1)

pub every_list_of_calls_has_one_run : EveryListOfCallsHasOneRun
every_list_of_calls_has_one_run b sound calls =
    let r = run_once b sound calls in
    (r.events, r.left, r.run, r.made, λ events after x e. run_unique sound x r.run (e ∙ sym r.made))

-- ---- a sweep

pub every_sweep_ends_in_time : EverySweepEndsInTime
every_sweep_ends_in_time b sound r1 r2 r3 chain s after x = sweep_in_time (three r1 r2 r3) (lawful_three r1 r2 r3) sound x
