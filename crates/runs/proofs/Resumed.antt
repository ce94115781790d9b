-- What a loop over the rounds of a sweep has to show.
use Rattle.std.proofs.Common.{◌≡◌, ℕ, ◌+◌, ◌≤◌, List, ◌++◌, subst, arith}
use Rattle.std.specs.List.{AllByRecursion}
use Rattle.model.specs.Rules.{Meaning, Lawful}
use Rattle.board.specs.declared.answers.Verdict.{Verdict}
use Rattle.board.specs.declared.answers.Verdict.TheVariants.{Settled}
use Rattle.board.specs.declared.answers.Swept.{Swept}
use Rattle.board.specs.Calls.{Bookings, SoundBookings}
use Rattle.runs.specs.Sweeping.{Application, Passes, Breaks, AllQuiet, settles, again, fails, SweepsTo, spare}
use Rattle.runs.proofs.Rounds.{passes_keeps, passes_less}
use Rattle.runs.proofs.Spare.{spare_small}

-- The answer with a verdict after so many rounds.
abbrev pub after_rounds : Verdict → ℕ → Swept
after_rounds v n = record { verdict = v; rounds = n }

-- After n rounds of a sweep from `start` the board is b: what a sweep from b answers, with n rounds more, a sweep from `start` answers.
-- Each of the rounds left less to spare.
pub record Resumes (rules : List Meaning) (start : Bookings) (n : ℕ) (b : Bookings) : Type 0 where
  pub sound : SoundBookings b
  pub goes : (v : Verdict) (m : ℕ) (c : Bookings) → SweepsTo rules b (after_rounds v m) c → SweepsTo rules start (after_rounds v (n + m)) c
  pub spent : n + spare b ≤ spare start

pub resumes_here : (rules : List Meaning) (b : Bookings) → SoundBookings b → Resumes rules b 0 b
resumes_here rules b sound =
    record {
      sound = sound;
      goes = λ v m c x. let e : m ≡ 0 + m = omega arith in subst (λ k. SweepsTo rules b (after_rounds v k) c) e x;
      spent = omega arith;
    }

pub resumes_again : (rules : List Meaning) → AllByRecursion Lawful rules → (start : Bookings) (n : ℕ) (b c : Bookings) (chain : List Application) →
    Resumes rules start n b → Passes rules b chain c → ¬ AllQuiet chain → Resumes rules start (n + 1) c
resumes_again rules laws start n b c chain r p changed =
    record {
      sound = (passes_keeps laws r.sound p).sound;
      goes = λ v m d x.
          let e : n + (m + 1) ≡ n + 1 + m = omega arith in
          subst (λ k. SweepsTo rules start (after_rounds v k) d) e (r.goes v (m + 1) d (chain ++ x.0, again p changed x.1));
      spent = omega (arith, r.spent, passes_less laws r.sound p changed);
    }

pub resumes_settles : (rules : List Meaning) (start : Bookings) (n : ℕ) (b c : Bookings) (chain : List Application) →
    Resumes rules start n b → Passes rules b chain c → AllQuiet chain → SweepsTo rules start (after_rounds Settled (n + 1)) c
resumes_settles rules start n b c chain r p quiet = r.goes Settled 1 c (chain, settles p quiet)

pub resumes_fails : (rules : List Meaning) (start : Bookings) (n : ℕ) (b c : Bookings) (chain : List Application) (v : Verdict) →
    Resumes rules start n b → Breaks rules b chain v c → SweepsTo rules start (after_rounds v (n + 1)) c
resumes_fails rules start n b c chain v r p = r.goes v 1 c (chain, fails p)

-- a sweep has at most 258049 rounds
pub rounds_small : (rules : List Meaning) (start : Bookings) (n : ℕ) (b : Bookings) → SoundBookings start → Resumes rules start n b → n ≤ 258048
rounds_small rules start n b sound r = omega (arith, r.spent, spare_small start sound)
