-- Sweep: rounds of the same rules, until one of them fails or all of them are quiet.
use Rattle.std.specs.Prelude.{◌≡◌, ℕ, ◌+◌, ◌-◌, List, [], ◌∷◌, ◌++◌, length}
use Rattle.std.specs.List.{AllByRecursion}
use Rattle.model.specs.declared.intervals.Interval.{Interval}
use Rattle.model.specs.declared.rows.Row.{Row}
use Rattle.model.specs.Limits.{row_at}
use Rattle.model.specs.Rules.{Meaning}
use Rattle.model.specs.Total.{total}
use Rattle.board.specs.declared.answers.Effect.{Effect}
use Rattle.board.specs.declared.answers.Effect.TheVariants.{Overfull, Squeezed, Narrowed, Quiet}
use Rattle.board.specs.declared.answers.Verdict.{Verdict}
use Rattle.board.specs.declared.answers.Verdict.TheVariants as verdict
use Rattle.board.specs.declared.answers.Swept.{Swept}
use Rattle.board.specs.Calls.{Bookings}
use Rattle.runs.specs.Applying.{Applies}

-- One application of a rule: the board that it found, and what it answered.
pub record Application : Type 0 where
  pub rule : Meaning
  pub found : Bookings
  pub effect : Effect Interval

abbrev pub application : Meaning → Bookings → Effect Interval → Application
application rule b e = record { rule = rule; found = b; effect = e }

-- An effect after which a sweep goes on: narrowed or quiet.
pub data GoesOn : Effect Interval → Type 0 where
  after_narrowed : GoesOn Narrowed
  after_quiet : GoesOn Quiet

-- An effect that ends a sweep, overfull or squeezed, and the verdict with the rule's letter.
pub data EndsWith (letter : ℕ) : Effect Interval → Verdict → Type 0 where
  at_overfull : (i : Interval) → EndsWith letter (Overfull i) (verdict.Overfull letter i)
  at_squeezed : (k : ℕ) → EndsWith letter (Squeezed k) (verdict.Squeezed letter k)

-- A round that goes through: the rules are applied in order, each to the board that the one before left, and each is narrowed or quiet.
-- With the applications, and the board left.
pub data Passes : List Meaning → Bookings → List Application → Bookings → Type 0 where
  done : {b : Bookings} → Passes [] b [] b
  then : {rule : Meaning} {rules : List Meaning} {b b' b'' : Bookings} {e : Effect Interval} {chain : List Application} →
      Applies rule b e b' → GoesOn e → Passes rules b' chain b'' → Passes (rule ∷ rules) b (application rule b e ∷ chain) b''

-- A round that breaks off: after some rules that are narrowed or quiet, one answers overfull or squeezed, and the others are not applied.
pub data Breaks : List Meaning → Bookings → List Application → Verdict → Bookings → Type 0 where
  here : {rule : Meaning} {rules : List Meaning} {b b' : Bookings} {e : Effect Interval} {v : Verdict} →
      Applies rule b e b' → EndsWith rule.letter e v → Breaks (rule ∷ rules) b (application rule b e ∷ []) v b'
  after : {rule : Meaning} {rules : List Meaning} {b b' b'' : Bookings} {e : Effect Interval} {chain : List Application} {v : Verdict} →
      Applies rule b e b' → GoesOn e → Breaks rules b' chain v b'' → Breaks (rule ∷ rules) b (application rule b e ∷ chain) v b''

-- Each of the applications was quiet.
abbrev pub AllQuiet : List Application → Type 0
AllQuiet chain = AllByRecursion (λ a. a.effect ≡ Quiet) chain

-- The answer of a sweep that ends in this round, and of one that ends in a later round.
abbrev pub ends_as : Verdict → Swept
ends_as v = record { verdict = v; rounds = 1 }

abbrev pub later : Swept → Swept
later swept = record { verdict = swept.verdict; rounds = swept.rounds + 1 }

-- A sweep, by whole rounds: it settles in a round in which every rule is quiet; a round that goes through, and in which not all are quiet,
-- is followed by another; and it fails in a round that breaks off.
pub data Sweeps (rules : List Meaning) : Bookings → List Application → Swept → Bookings → Type 0 where
  settles : {b b' : Bookings} {chain : List Application} → Passes rules b chain b' → AllQuiet chain →
      Sweeps rules b chain (ends_as verdict.Settled) b'
  again : {b b' b'' : Bookings} {chain more : List Application} {swept : Swept} → Passes rules b chain b' → ¬ AllQuiet chain →
      Sweeps rules b' more swept b'' → Sweeps rules b (chain ++ more) (later swept) b''
  fails : {b b' : Bookings} {chain : List Application} {v : Verdict} → Breaks rules b chain v b' → Sweeps rules b chain (ends_as v) b'

-- A sweep with this answer, that leaves this board, by some chain of applications.
abbrev pub SweepsTo : List Meaning → Bookings → Swept → Bookings → Type 0
SweepsTo rules b s b' = (chain : List Application) × Sweeps rules b chain s b'

-- The slots to spare in the present window of a row.
abbrev pub spare_in : Row → ℕ
spare_in row = row.present.deadline - row.present.release - row.duration

-- The slots to spare on a board: the sum of deadline - release - duration over its rows.
abbrev pub spare : Bookings → ℕ
spare b = total (length b.rows) (λ k. spare_in (row_at b.rows k))
