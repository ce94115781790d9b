-- Rounds, one application after another.
use Rattle.std.proofs.Common.{◌≡◌, ℕ, List, [], ◌∷◌, Ok, Err, Result, sym, refl, subst, arith}
use Rattle.model.specs.declared.intervals.Interval.{Interval}
use Rattle.model.specs.Rules.{Meaning}
use Rattle.board.specs.declared.answers.Effect.TheVariants as effect
use Rattle.board.specs.declared.answers.Verdict.{Verdict}
use Rattle.board.specs.declared.answers.Verdict.TheVariants as verdict
use Rattle.board.specs.Calls.{Bookings}
use Rattle.runs.specs.Applying.{Applies}
use Rattle.runs.specs.Sweeping.{application, EndsWith, at_overfull, at_squeezed, after_narrowed, after_quiet, done, then, here, after}
use Rattle.sweep.specs.declared.changes.Change.{Change}
use Rattle.sweep.specs.declared.changes.Change.TheVariants.{Quiet, Narrowed}
use Rattle.sweep.specs.Rounds.{Steps, Rounds}

-- ---- verdicts

pub overfull_by : (rule : Meaning) (b c : Bookings) (i j : Interval) (letter : ℕ) → Applies rule b (effect.Overfull i) c →
    letter ≡ rule.letter → j ≡ i → Steps rule b (Err (verdict.Overfull letter j)) c
overfull_by rule b c i j letter a e f = (
  effect.Overfull i,
  a,
  subst (λ (n : ℕ). EndsWith rule.letter (effect.Overfull i) (verdict.Overfull n j)) (sym e)
      (subst (λ (t : Interval). EndsWith rule.letter (effect.Overfull i) (verdict.Overfull rule.letter t)) (sym f) (at_overfull i)),
)

pub squeezed_by : (rule : Meaning) (b c : Bookings) (k letter : ℕ) → Applies rule b (effect.Squeezed k) c → letter ≡ rule.letter →
    Steps rule b (Err (verdict.Squeezed letter k)) c
squeezed_by rule b c k letter a e =
    (effect.Squeezed k, a, subst (λ (n : ℕ). EndsWith rule.letter (effect.Squeezed k) (verdict.Squeezed n k)) (sym e) (at_squeezed k))

-- ---- rounds

-- Narrowed is not quiet.
loud : ¬ (◌≡◌ {A = Rattle.board.specs.declared.answers.Effect.Effect Interval} effect.Narrowed effect.Quiet)
loud e = let z : ◌≡◌ {A = ℕ} 0 1 = cc in omega arith

-- What two changes come to together.
abbrev pub both : Change → Change → Change
both Quiet d = d
both Narrowed d = Narrowed

-- The outcome of a round after one of its applications went through.
abbrev pub joined : Change → Result Change Verdict → Result Change Verdict
joined c (Err v) = Err v
joined c (Ok d) = Ok (both c d)

pub fails : (rule : Meaning) (rules : List Meaning) (b c : Bookings) (v : Verdict) → Steps rule b (Err v) c → Rounds (rule ∷ rules) b (Err v) c
fails rule rules b c v (e, a, ends) = (application rule b e ∷ [], here a ends)

pub goes_on : (rule : Meaning) (rules : List Meaning) (b c d : Bookings) (n : Change) (o : Result Change Verdict) → Steps rule b (Ok n) c →
    Rounds rules c o d → Rounds (rule ∷ rules) b (joined n o) d
goes_on rule rules b c d Narrowed (Err v) a (chain, breaks) = (application rule b effect.Narrowed ∷ chain, after a after_narrowed breaks)
goes_on rule rules b c d Narrowed (Ok Narrowed) a (chain, passes, quiet) =
    (application rule b effect.Narrowed ∷ chain, then a after_narrowed passes, λ q. loud q.0)
goes_on rule rules b c d Narrowed (Ok Quiet) a (chain, passes, quiet) =
    (application rule b effect.Narrowed ∷ chain, then a after_narrowed passes, λ q. loud q.0)
goes_on rule rules b c d Quiet (Err v) a (chain, breaks) = (application rule b effect.Quiet ∷ chain, after a after_quiet breaks)
goes_on rule rules b c d Quiet (Ok Narrowed) a (chain, passes, quiet) =
    (application rule b effect.Quiet ∷ chain, then a after_quiet passes, λ q. quiet q.1)
goes_on rule rules b c d Quiet (Ok Quiet) a (chain, passes, quiet) =
    (application rule b effect.Quiet ∷ chain, then a after_quiet passes, (refl, quiet))

-- a round of no rules is quiet
pub rests : (b : Bookings) → Rounds [] b (Ok Quiet) b
rests b = ([], done, tt)

both_quiet : (n : Change) → both n Quiet ≡ n
both_quiet Quiet = refl
both_quiet Narrowed = refl

-- ---- a round of three rules

module _ (x y z : Meaning) (b c d e : Bookings) where
  pub first_fails : (v : Verdict) → Steps x b (Err v) c → Rounds (x ∷ (y ∷ (z ∷ []))) b (Err v) c
  first_fails v s = fails x (y ∷ (z ∷ [])) b c v s

  pub second_fails : (m : Change) (v : Verdict) → Steps x b (Ok m) c → Steps y c (Err v) d → Rounds (x ∷ (y ∷ (z ∷ []))) b (Err v) d
  second_fails m v s t = goes_on x (y ∷ (z ∷ [])) b c d m (Err v) s (fails y (z ∷ []) c d v t)

  pub third_fails : (m n : Change) (v : Verdict) → Steps x b (Ok m) c → Steps y c (Ok n) d → Steps z d (Err v) e →
      Rounds (x ∷ (y ∷ (z ∷ []))) b (Err v) e
  third_fails m n v s t u = goes_on x (y ∷ (z ∷ [])) b c e m (Err v) s (goes_on y (z ∷ []) c d e n (Err v) t (fails z [] d e v u))

  pub goes_through : (m n k : Change) → Steps x b (Ok m) c → Steps y c (Ok n) d → Steps z d (Ok k) e →
      Rounds (x ∷ (y ∷ (z ∷ []))) b (Ok (both m (both n k))) e
  goes_through m n k s t u =
      rw (← both_quiet k)
      (goes_on x (y ∷ (z ∷ [])) b c e m (Ok (both n (both k Quiet))) s
      (goes_on y (z ∷ []) c d e n (Ok (both k Quiet)) t (goes_on z [] d e e k (Ok Quiet) u (rests e))))
