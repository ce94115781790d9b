-- A sweep: what it keeps, what its verdict means, that it ends in time, and that it has one answer only.
use Rattle.std.proofs.Common.{◌≡◌, ℕ, zero, suc, ◌+◌, ◌<◌, ◌≤◌, List, [], ◌∷◌, ◌++◌, sym, refl, ap, subst, inl, inr, arith}
use Rattle.std.specs.List.{AllByRecursion}
use Rattle.std.proofs.ByRecursion.{All-append}
use Rattle.model.specs.declared.intervals.Interval.{Interval}
use Rattle.model.specs.Rules.{Meaning, Lawful}
use Rattle.model.specs.Sheets.{Placement}
use Rattle.board.specs.declared.answers.Effect.{Effect}
use Rattle.board.specs.declared.answers.Effect.TheVariants.{Overfull, Squeezed, Narrowed, Quiet}
use Rattle.board.specs.declared.answers.Verdict.{Verdict}
use Rattle.board.specs.declared.answers.Verdict.TheVariants.{Settled}
use Rattle.board.specs.declared.answers.Swept.{Swept}
use Rattle.board.specs.Calls.{Bookings, SoundBookings}
use Rattle.runs.specs.Applying.{at_present}
use Rattle.runs.specs.Sweeping.{Application, at_overfull, at_squeezed, Breaks, here, after, AllQuiet, Sweeps, settles, again, fails, ends_as, later, spare}
use Rattle.runs.proofs.Applied.{Kept, kept_both}
use Rattle.runs.proofs.Rounds.{OfEach, Calm, passes_keeps, passes_each, passes_less, passes_quiet, passes_unique, passes_or_breaks, breaks_keeps, breaks_each, breaks_honest, breaks_unique, round_once}

quiet? : (e : Effect Interval) → Dec (e ≡ Quiet)
quiet? (Overfull i) = no (λ e. let z : ◌≡◌ {A = ℕ} 0 1 = cc in omega arith)
quiet? (Squeezed k) = no (λ e. let z : ◌≡◌ {A = ℕ} 0 1 = cc in omega arith)
quiet? Narrowed = no (λ e. let z : ◌≡◌ {A = ℕ} 0 1 = cc in omega arith)
quiet? Quiet = yes refl

all_quiet? : (chain : List Application) → Dec (AllQuiet chain)
all_quiet? [] = yes tt
all_quiet? (a ∷ chain) =
    elim (quiet? a.effect) [
      | no h ↦ no (λ q. h q.0)
      | yes e ↦ elim (all_quiet? chain) [ yes q ↦ yes (e, q) | no h ↦ no (λ q. h q.1) ]
    ]

-- a verdict that ends a round is not settled
pub breaks_unsettled : {rules : List Meaning} {b c : Bookings} {chain : List Application} {v : Verdict} → Breaks rules b chain v c → v ≡ Settled → ⊥
breaks_unsettled (here a (at_overfull i)) e = let z : ◌≡◌ {A = ℕ} 0 1 = cc in omega arith
breaks_unsettled (here a (at_squeezed k)) e = let z : ◌≡◌ {A = ℕ} 0 1 = cc in omega arith
breaks_unsettled (after a on more) e = breaks_unsettled more e

module _ (rules : List Meaning) (laws : AllByRecursion Lawful rules) where
  pub sweep_keeps : {b c : Bookings} {chain : List Application} {s : Swept} → SoundBookings b → Sweeps rules b chain s c → Kept b c
  sweep_keeps sound (settles p quiet) = passes_keeps laws sound p
  sweep_keeps sound (again {b} {b'} {b''} p changed more) =
      let k = passes_keeps laws sound p in kept_both b b' b'' k (sweep_keeps k.sound more)
  sweep_keeps sound (fails p) = breaks_keeps laws sound p

  -- what holds of each application holds along the chain
  pub sweep_each : (P : Application → Type 0) → OfEach P → {b c : Bookings} {chain : List Application} {s : Swept} →
      SoundBookings b → Sweeps rules b chain s c → AllByRecursion P chain
  sweep_each P one sound (settles p quiet) = passes_each P one laws sound p
  sweep_each P one sound (again {chain = chain} {more = more} p changed rest) =
      All-append P chain more (passes_each P one laws sound p) (sweep_each P one (passes_keeps laws sound p).sound rest)
  sweep_each P one sound (fails p) = breaks_each P one laws sound p

  -- where there is a placement, the verdict is settled
  pub sweep_honest : {b c : Bookings} {chain : List Application} {s : Swept} → SoundBookings b → Sweeps rules b chain s c →
      (start : ℕ → ℕ) → Placement (at_present b) start → s.verdict ≡ Settled
  sweep_honest sound (settles p quiet) start x = refl
  sweep_honest sound (again p changed more) start x =
      let k = passes_keeps laws sound p in sweep_honest k.sound more start (k.placed start x)
  sweep_honest sound (fails p) start x = absurd (breaks_honest laws sound p start x)

  -- where the verdict is settled, each rule is quiet on the board left
  pub settled_calm : {b c : Bookings} {chain : List Application} {s : Swept} → Sweeps rules b chain s c → s.verdict ≡ Settled → AllByRecursion (Calm c) rules
  settled_calm (settles p quiet) e =
      let (same, each) = passes_quiet p quiet in subst (λ x. AllByRecursion (Calm x) rules) (sym same) each
  settled_calm (again p changed more) e = settled_calm more e
  settled_calm (fails p) e = absurd (breaks_unsettled p e)

  -- each round but the last leaves less to spare
  pub sweep_in_time : {b c : Bookings} {chain : List Application} {s : Swept} → SoundBookings b → Sweeps rules b chain s c → s.rounds ≤ 1 + spare b
  sweep_in_time sound (settles p quiet) = omega arith
  sweep_in_time sound (again p changed more) =
      omega (arith, sweep_in_time (passes_keeps laws sound p).sound more, passes_less laws sound p changed)
  sweep_in_time sound (fails p) = omega arith

  -- ---- every sweep ends

  pub record Ends (b : Bookings) : Type 0 where
    pub chain : List Application
    pub swept : Swept
    pub left : Bookings
    pub made : Sweeps rules b chain swept left

  ends_below : (m : ℕ) (b : Bookings) → SoundBookings b → spare b < m → Ends b
  ends_below zero b sound l = absurd (omega arith)
  ends_below (suc m) b sound l =
      elim (round_once rules b) [
        | inr t ↦ record { chain = t.chain; swept = ends_as t.verdict; left = t.left; made = fails t.breaks }
        | inl t ↦ elim (all_quiet? t.chain) [
          | yes quiet ↦ record { chain = t.chain; swept = ends_as Settled; left = t.left; made = settles t.passes quiet }
          | no changed ↦
              let less = passes_less laws sound t.passes changed in
              let r = ends_below m t.left (passes_keeps laws sound t.passes).sound (omega arith) in
              record { chain = t.chain ++ r.chain; swept = later r.swept; left = r.left; made = again t.passes changed r.made }
        ]
      ]

  pub sweep_ends : (b : Bookings) → SoundBookings b → Ends b
  sweep_ends b sound = ends_below (suc (spare b)) b sound (omega arith)

-- ---- one answer only

quiet_along : (chain chain' : List Application) → chain ≡ chain' → AllQuiet chain → AllQuiet chain'
quiet_along chain chain' e quiet = subst AllQuiet e quiet

pub sweeps_unique : (rules : List Meaning) {b c d : Bookings} {chain chain' : List Application} {s s' : Swept} →
    Sweeps rules b chain s c → Sweeps rules b chain' s' d → (chain ≡ chain') × (s ≡ s') × (c ≡ d)
sweeps_unique rules (settles p quiet) (settles p' quiet') = let u = passes_unique p p' in (u.0, refl, u.1)
sweeps_unique rules (settles p quiet) (again p' changed' more') = absurd (changed' (quiet_along _ _ (passes_unique p p').0 quiet))
sweeps_unique rules (settles p quiet) (fails p') = absurd (passes_or_breaks p p')
sweeps_unique rules (again p changed more) (settles p' quiet') = absurd (changed (quiet_along _ _ (sym (passes_unique p p').0) quiet'))
sweeps_unique rules (again p changed rest) (again {b'' = d} {more = more'} {swept = s'} p' changed' rest') =
    let u = passes_unique p p' in
    let r = sweeps_unique rules rest (subst (λ x. Sweeps rules x more' s' d) (sym u.1) rest') in
    (λ z. u.0 z ++ r.0 z, ap later r.1, r.2)
sweeps_unique rules (again p changed more) (fails p') = absurd (passes_or_breaks p p')
sweeps_unique rules (fails p) (settles p' quiet') = absurd (passes_or_breaks p' p)
sweeps_unique rules (fails p) (again p' changed' more') = absurd (passes_or_breaks p' p)
sweeps_unique rules (fails p) (fails p') = let u = breaks_unique p p' in (u.0, ap ends_as u.1, u.2)
