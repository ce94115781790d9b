-- The rules that have a letter keep the law, and apply by letter has one answer.
use Rattle.std.proofs.Common.{◌≡◌, ℕ, ◌⊎◌, List, [], ◌∷◌, Ok, Result, sym, refl, ap, ◌∙◌, subst, inl, inr, arith}
use Rattle.std.proofs.lemmas.Bool.{cases_eq}
use Rattle.model.specs.declared.intervals.Interval.{Interval}
use Rattle.model.specs.Rules.{Meaning, Lawful}
use Rattle.board.specs.declared.answers.Effect.{Effect}
use Rattle.board.specs.declared.refusals.Refusal.{Refusal}
use Rattle.board.specs.Calls.{Bookings}
use Rattle.timetable.specs.Meaning.{meaning_T}
use Rattle.timetable.proofs.RuleT.{t_keeps_the_law}
use Rattle.elastic.specs.Meaning.{meaning_E}
use Rattle.elastic.proofs.Law.{e_keeps_the_law}
use Rattle.shift.specs.Meaning.{meaning_S}
use Rattle.shift.proofs.RuleS.{s_keeps_the_law}
use Rattle.runs.specs.Applying.{Applies}
use Rattle.runs.specs.Sweeping.{Application, application}
use Rattle.runs.specs.Runs.{Names, names_T, names_E, names_S, AppliesByLetter, named, unnamed}
use Rattle.runs.proofs.Once.{applies_unique}

pub lawful_T : Lawful meaning_T
lawful_T = t_keeps_the_law.1 meaning_T t_keeps_the_law.0

pub lawful_E : Lawful meaning_E
lawful_E = e_keeps_the_law.1 meaning_E e_keeps_the_law.0

pub lawful_S : Lawful meaning_S
lawful_S = s_keeps_the_law.1 meaning_S s_keeps_the_law.0

pub named_lawful : {letter : ℕ} {rule : Meaning} → Names letter rule → Lawful rule
named_lawful names_T = lawful_T
named_lawful names_E = lawful_E
named_lawful names_S = lawful_S

-- a letter that names a rule is one of three
names_one : {letter : ℕ} {rule : Meaning} → Names letter rule →
    ((letter ≡ 84) × (rule ≡ meaning_T)) ⊎ ((letter ≡ 69) × (rule ≡ meaning_E)) ⊎ ((letter ≡ 83) × (rule ≡ meaning_S))
names_one names_T = inl (refl, refl)
names_one names_E = inr (inl (refl, refl))
names_one names_S = inr (inr (refl, refl))

pub names_unique : {letter : ℕ} {rule rule' : Meaning} → Names letter rule → Names letter rule' → rule ≡ rule'
names_unique x y =
    elim (names_one x) [
      | inl (l, e) ↦ elim (names_one y) [
        | inl (l', e') ↦ e ∙ sym e'
        | inr (inl (l', e')) ↦ absurd (omega arith)
        | inr (inr (l', e')) ↦ absurd (omega arith)
      ]
      | inr (inl (l, e)) ↦ elim (names_one y) [
        | inl (l', e') ↦ absurd (omega arith)
        | inr (inl (l', e')) ↦ e ∙ sym e'
        | inr (inr (l', e')) ↦ absurd (omega arith)
      ]
      | inr (inr (l, e)) ↦ elim (names_one y) [
        | inl (l', e') ↦ absurd (omega arith)
        | inr (inl (l', e')) ↦ absurd (omega arith)
        | inr (inr (l', e')) ↦ e ∙ sym e'
      ]
    ]

pub names? : (letter : ℕ) → ((rule : Meaning) × Names letter rule) ⊎ ((rule : Meaning) → ¬ Names letter rule)
names? letter =
    elim (cases_eq letter 84) [
      | inl e ↦ inl (meaning_T, rw e names_T)
      | inr t ↦ elim (cases_eq letter 69) [
        | inl e ↦ inl (meaning_E, rw e names_E)
        | inr e ↦ elim (cases_eq letter 83) [
          | inl q ↦ inl (meaning_S, rw q names_S)
          | inr s ↦ inr (λ rule x. elim (names_one x) [ inl (l, _) ↦ t l | inr (inl (l, _)) ↦ e l | inr (inr (l, _)) ↦ s l ])
        ]
      ]
    ]

pub by_letter_unique : (letter : ℕ) (b : Bookings) {chain chain' : List Application} {r r' : Result (Effect Interval) Refusal} {c c' : Bookings} →
    AppliesByLetter letter b chain r c → AppliesByLetter letter b chain' r' c' → (chain ≡ chain') × (r ≡ r') × (c ≡ c')
by_letter_unique letter b (named {rule} x a) (named {e = e'} {b' = c'} x' a') =
    let same = names_unique x x' in
    let u = applies_unique rule b a (subst (λ m. Applies m b e' c') (sym same) a') in
    (λ z. application (same z) b (u.0 z) ∷ [], ap Ok u.0, u.1)
by_letter_unique letter b (named {rule} x a) (unnamed none) = absurd (none rule x)
by_letter_unique letter b (unnamed none) (named {rule} x a) = absurd (none rule x)
by_letter_unique letter b (unnamed none) (unnamed none') = (refl, refl, refl)
