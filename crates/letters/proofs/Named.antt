-- Letters that name a rule, and letters that name none.
use Rattle.std.proofs.Common.{◌≡◌, ℕ, List, [], ◌∷◌, Ok, Err, sym, refl, subst}
use Rattle.model.specs.declared.intervals.Interval.{Interval}
use Rattle.model.specs.Rules.{Meaning}
use Rattle.board.specs.declared.answers.Effect.{Effect}
use Rattle.board.specs.declared.refusals.Refusal.TheVariants.{Letter}
use Rattle.board.specs.Calls.{Bookings}
use Rattle.runs.specs.Applying.{Applies}
use Rattle.runs.specs.Runs.{Names, names_T, names_E, names_S, AppliesByLetter, named, unnamed}
use Rattle.runs.specs.Sweeping.{Application, application}

pub by_name : (letter n : ℕ) (rule : Meaning) (b c : Bookings) (e f : Effect Interval) → letter ≡ n → Names n rule → Applies rule b e c → f ≡ e →
    (chain : List Application) × AppliesByLetter letter b chain (Ok f) c
by_name letter n rule b c e f l names a same = (
  application rule b f ∷ [],
  subst (λ (m : ℕ). AppliesByLetter m b (application rule b f ∷ []) (Ok f) c) (sym l)
      (named names (subst (λ (x : Effect Interval). Applies rule b x c) (sym same) a)),
)

nameless : (letter : ℕ) → ¬ (letter ≡ 84) → ¬ (letter ≡ 69) → ¬ (letter ≡ 83) → (rule : Meaning) → ¬ Names letter rule
nameless letter t e s rule names_T = t refl
nameless letter t e s rule names_E = e refl
nameless letter t e s rule names_S = s refl

pub by_none : (letter : ℕ) (b : Bookings) → ¬ (letter ≡ 84) → ¬ (letter ≡ 69) → ¬ (letter ≡ 83) →
    (chain : List Application) × AppliesByLetter letter b chain (Err Letter) b
by_none letter b t e s = ([], unnamed (nameless letter t e s))
