-- One round of a sweep: what it keeps, and that it goes through or breaks off, in one way only.
use Rattle.std.proofs.Common.{◌≡◌, ℕ, ◌<◌, ◌≤◌, ◌⊎◌, List, [], ◌∷◌, sym, refl, ap, ◌∙◌, subst, inl, inr, arith}
use Rattle.std.specs.List.{AllByRecursion}
use Rattle.model.specs.declared.intervals.Interval.{Interval}
use Rattle.model.specs.Rules.{Meaning, Lawful}
use Rattle.model.specs.Sheets.{Placement}
use Rattle.board.specs.declared.answers.Effect.{Effect}
use Rattle.board.specs.declared.answers.Effect.TheVariants.{Overfull, Squeezed, Narrowed, Quiet}
use Rattle.board.specs.declared.answers.Verdict.{Verdict}
use Rattle.board.specs.declared.answers.Verdict.TheVariants as verdict
use Rattle.board.specs.Calls.{Bookings, SoundBookings}
use Rattle.runs.specs.Applying.{at_present, Applies}
use Rattle.runs.specs.Sweeping.{Application, application, GoesOn, after_narrowed, after_quiet, EndsWith, at_overfull, at_squeezed, Passes, done, then, Breaks, here, after, AllQuiet, spare}
use Rattle.runs.proofs.Applied.{Kept, kept_same, kept_both, applied_keeps, applied_honest}
use Rattle.runs.proofs.Once.{applies_once, applies_unique}
use Rattle.runs.proofs.Spare.{narrowed_less, quiet_same}

-- What holds of every application of a lawful rule to a board within the limits.
abbrev pub OfEach : (Application → Type 0) → Type 0
OfEach P = (rule : Meaning) → Lawful rule → (b : Bookings) → SoundBookings b → (e : Effect Interval) (c : Bookings) → Applies rule b e c →
    P (application rule b e)

-- ---- a round that goes through

pub passes_keeps : {rules : List Meaning} {b c : Bookings} {chain : List Application} → AllByRecursion Lawful rules → SoundBookings b → Passes rules b chain c → Kept b c
passes_keeps {b = b} law sound done = kept_same b sound
passes_keeps law sound (then {rule} {b = b} {b' = b'} {b'' = b''} a on more) =
    let k = applied_keeps rule law.0 b sound a in kept_both b b' b'' k (passes_keeps law.1 k.sound more)

pub passes_each : (P : Application → Type 0) → OfEach P → {rules : List Meaning} {b c : Bookings} {chain : List Application} →
    AllByRecursion Lawful rules → SoundBookings b → Passes rules b chain c → AllByRecursion P chain
passes_each P one law sound done = tt
passes_each P one law sound (then {rule} {b = b} a on more) =
    (one rule law.0 b sound _ _ a, passes_each P one law.1 (applied_keeps rule law.0 b sound a).sound more)

quiet_spare : (rule : Meaning) (b c : Bookings) → Applies rule b Quiet c → spare c ≡ spare b
quiet_spare rule b c a = ap spare (quiet_same rule b c a)

-- a round leaves no more to spare
pub passes_spare : {rules : List Meaning} {b c : Bookings} {chain : List Application} → AllByRecursion Lawful rules → SoundBookings b → Passes rules b chain c →
    spare c ≤ spare b
passes_spare law sound done = omega arith
passes_spare law sound (then {rule} {b = b} {b' = b'} a after_narrowed more) =
    omega (arith, passes_spare law.1 (applied_keeps rule law.0 b sound a).sound more, narrowed_less rule b b' sound a)
passes_spare law sound (then {rule} {b = b} {b' = b'} a after_quiet more) =
    omega (arith, passes_spare law.1 (applied_keeps rule law.0 b sound a).sound more, quiet_spare rule b b' a)

-- a round in which not all are quiet leaves less to spare
pub passes_less : {rules : List Meaning} {b c : Bookings} {chain : List Application} → AllByRecursion Lawful rules → SoundBookings b → Passes rules b chain c →
    ¬ AllQuiet chain → spare c < spare b
passes_less law sound done changed = absurd (changed tt)
passes_less law sound (then {rule} {b = b} {b' = b'} a after_narrowed more) changed =
    omega (arith, passes_spare law.1 (applied_keeps rule law.0 b sound a).sound more, narrowed_less rule b b' sound a)
passes_less law sound (then {rule} {b = b} {b' = b'} a after_quiet more) changed =
    omega (arith, passes_less law.1 (applied_keeps rule law.0 b sound a).sound more (λ q. changed (refl, q)), quiet_spare rule b b' a)

-- The rule, applied to this board, is quiet.
pub record Calm (b : Bookings) (rule : Meaning) : Type 0 where
  pub left : Bookings
  pub applied : Applies rule b Quiet left

-- a round in which all are quiet changes nothing, and each rule is quiet on the board
pub passes_quiet : {rules : List Meaning} {b c : Bookings} {chain : List Application} → Passes rules b chain c → AllQuiet chain →
    (c ≡ b) × AllByRecursion (Calm b) rules
passes_quiet done q = (refl, tt)
passes_quiet (then a after_narrowed more) q = let e = q.0 in let z : ◌≡◌ {A = ℕ} 0 1 = cc in absurd (omega arith)
passes_quiet (then {rule} {rules} {b} {b'} {b''} a after_quiet more) q =
    let (same, each) = passes_quiet more q.1 in
    let e = quiet_same rule b b' a in
    (same ∙ e, (record { left = b'; applied = a }, subst (λ x. AllByRecursion (Calm x) rules) e each))

-- ---- a round that breaks off

pub breaks_keeps : {rules : List Meaning} {b c : Bookings} {chain : List Application} {v : Verdict} → AllByRecursion Lawful rules → SoundBookings b →
    Breaks rules b chain v c → Kept b c
breaks_keeps law sound (here {rule} {b = b} a ends) = applied_keeps rule law.0 b sound a
breaks_keeps law sound (after {rule} {b = b} {b' = b'} {b'' = b''} a on more) =
    let k = applied_keeps rule law.0 b sound a in kept_both b b' b'' k (breaks_keeps law.1 k.sound more)

pub breaks_each : (P : Application → Type 0) → OfEach P → {rules : List Meaning} {b c : Bookings} {chain : List Application} {v : Verdict} →
    AllByRecursion Lawful rules → SoundBookings b → Breaks rules b chain v c → AllByRecursion P chain
breaks_each P one law sound (here {rule} {b = b} a ends) = (one rule law.0 b sound _ _ a, tt)
breaks_each P one law sound (after {rule} {b = b} a on more) =
    (one rule law.0 b sound _ _ a, breaks_each P one law.1 (applied_keeps rule law.0 b sound a).sound more)

-- an effect does not both end a sweep and let it go on
pub on_or_end : {letter : ℕ} {e f : Effect Interval} {v : Verdict} → GoesOn e → EndsWith letter f v → e ≡ f → ⊥
on_or_end after_narrowed (at_overfull i) e = let z : ◌≡◌ {A = ℕ} 0 1 = cc in omega arith
on_or_end after_narrowed (at_squeezed k) e = let z : ◌≡◌ {A = ℕ} 0 1 = cc in omega arith
on_or_end after_quiet (at_overfull i) e = let z : ◌≡◌ {A = ℕ} 0 1 = cc in omega arith
on_or_end after_quiet (at_squeezed k) e = let z : ◌≡◌ {A = ℕ} 0 1 = cc in omega arith

-- where there is a placement, no round breaks off
pub breaks_honest : {rules : List Meaning} {b c : Bookings} {chain : List Application} {v : Verdict} → AllByRecursion Lawful rules → SoundBookings b →
    Breaks rules b chain v c → (start : ℕ → ℕ) → ¬ Placement (at_present b) start
breaks_honest law sound (here {rule} {b = b} a ends) start p = on_or_end (applied_honest rule law.0 b sound a start p) ends refl
breaks_honest law sound (after {rule} {b = b} a on more) start p =
    let k = applied_keeps rule law.0 b sound a in breaks_honest law.1 k.sound more start (k.placed start p)

-- ---- every round goes through or breaks off

pub record Through (rules : List Meaning) (b : Bookings) : Type 0 where
  pub chain : List Application
  pub left : Bookings
  pub passes : Passes rules b chain left

pub record Broken (rules : List Meaning) (b : Bookings) : Type 0 where
  pub chain : List Application
  pub verdict : Verdict
  pub left : Bookings
  pub breaks : Breaks rules b chain verdict left

on_through : (rule : Meaning) (rules : List Meaning) (b c : Bookings) (e : Effect Interval) → Applies rule b e c → GoesOn e →
    Through rules c ⊎ Broken rules c → Through (rule ∷ rules) b ⊎ Broken (rule ∷ rules) b
on_through rule rules b c e a on (inl t) =
    inl (record { chain = application rule b e ∷ t.chain; left = t.left; passes = then a on t.passes })
on_through rule rules b c e a on (inr t) =
    inr (record { chain = application rule b e ∷ t.chain; verdict = t.verdict; left = t.left; breaks = after a on t.breaks })

after_one : (rule : Meaning) (rules : List Meaning) (b c : Bookings) (e : Effect Interval) → Applies rule b e c →
    Through rules c ⊎ Broken rules c → Through (rule ∷ rules) b ⊎ Broken (rule ∷ rules) b
after_one rule rules b c (Overfull i) a more =
    inr (record { chain = application rule b (Overfull i) ∷ []; verdict = verdict.Overfull rule.letter i; left = c; breaks = here a (at_overfull i) })
after_one rule rules b c (Squeezed k) a more =
    inr (record { chain = application rule b (Squeezed k) ∷ []; verdict = verdict.Squeezed rule.letter k; left = c; breaks = here a (at_squeezed k) })
after_one rule rules b c Narrowed a more = on_through rule rules b c Narrowed a after_narrowed more
after_one rule rules b c Quiet a more = on_through rule rules b c Quiet a after_quiet more

pub round_once : (rules : List Meaning) (b : Bookings) → Through rules b ⊎ Broken rules b
round_once [] b = inl (record { chain = []; left = b; passes = done })
round_once (rule ∷ rules) b =
    let (e, c, a) = applies_once rule b in
    after_one rule rules b c e a (round_once rules c)

-- ---- in one way only

pub passes_unique : {rules : List Meaning} {b c d : Bookings} {chain chain' : List Application} → Passes rules b chain c → Passes rules b chain' d →
    (chain ≡ chain') × (c ≡ d)
passes_unique done done = (refl, refl)
passes_unique (then {rule} {rules} {b} {b'} {b''} {e} {chain} a on more) (then {b' = d'} {b'' = d''} {e = e'} {chain = chain'} a' on' more') =
    let u = applies_unique rule b a a' in
    let r = passes_unique more (subst (λ x. Passes rules x chain' d'') (sym u.1) more') in
    (λ z. application rule b (u.0 z) ∷ r.0 z, r.1)

pub passes_or_breaks : {rules : List Meaning} {b c d : Bookings} {chain chain' : List Application} {v : Verdict} →
    Passes rules b chain c → Breaks rules b chain' v d → ⊥
passes_or_breaks done x = elim x [ ]
passes_or_breaks (then {rule} {b = b} a on more) (here a' ends) = on_or_end on ends (applies_unique rule b a a').0
passes_or_breaks (then {rule} {rules} {b} a on more) (after {b'' = d''} {chain = chain'} {v = v} a' on' more') =
    passes_or_breaks more (subst (λ x. Breaks rules x chain' v d'') (sym (applies_unique rule b a a').1) more')

ends_unique : {letter : ℕ} {e f : Effect Interval} {v w : Verdict} → EndsWith letter e v → EndsWith letter f w → e ≡ f → v ≡ w
ends_unique (at_overfull i) (at_overfull j) e = cc
ends_unique (at_overfull i) (at_squeezed k) e = let z : ◌≡◌ {A = ℕ} 0 1 = cc in absurd (omega arith)
ends_unique (at_squeezed k) (at_overfull i) e = let z : ◌≡◌ {A = ℕ} 0 1 = cc in absurd (omega arith)
ends_unique (at_squeezed k) (at_squeezed j) e = cc

pub breaks_unique : {rules : List Meaning} {b c d : Bookings} {chain chain' : List Application} {v w : Verdict} →
    Breaks rules b chain v c → Breaks rules b chain' w d → (chain ≡ chain') × (v ≡ w) × (c ≡ d)
breaks_unique (here {rule} {b = b} a ends) (here a' ends') =
    let u = applies_unique rule b a a' in
    (λ z. application rule b (u.0 z) ∷ [], ends_unique ends ends' u.0, u.1)
breaks_unique (here {rule} {b = b} a ends) (after a' on' more') = absurd (on_or_end on' ends (sym (applies_unique rule b a a').0))
breaks_unique (after {rule} {b = b} a on more) (here a' ends') = absurd (on_or_end on ends' (applies_unique rule b a a').0)
breaks_unique (after {rule} {rules} {b} a on more) (after {b'' = d''} {chain = chain'} {v = w} a' on' more') =
    let u = applies_unique rule b a a' in
    let r = breaks_unique more (subst (λ x. Breaks rules x chain' w d'') (sym u.1) more') in
    (λ z. application rule b (u.0 z) ∷ r.0 z, r.1, r.2)
