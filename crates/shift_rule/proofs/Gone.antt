-- Points that a pass has gone through stay so.
use Rattle.std.proofs.Common.{◌≡◌, ℕ, true, false, ◌≢◌, get_or, set, sym, ◌∙◌, subst, inl, inr, arith}
use Rattle.std.proofs.lemmas.List.{get_or-set_other}
use Rattle.std.proofs.lemmas.Bool.{cases_lt, false≢true}
use mathlib.Core.Logic.{∥∥₁_elim, ∥∥₁_map}
use Rattle.model.specs.Sheets.{Sheet, count}
use Rattle.shift_rule.specs.declared.slots.Slots.{Slots}
use Rattle.shift_rule.specs.declared.pass.Survey.{Survey}
use Rattle.shift_rule.specs.Found.{Grows, AccountedFrom, AccountedTo}
use Rattle.shift_rule.specs.Points.{Marks, GoneThrough}
use Rattle.shift_rule.proofs.Onward.{from_still, to_still}
use Rattle.shift_rule.proofs.Sure.{From-prop, To-prop}

-- what holds of marks still holds where one is added
pub marks_more : (P : ℕ → Type 0) (before after : Slots) (i : ℕ) → after.marks ≡ set before.marks i true → Marks P before → P i → Marks P after
marks_more P before after i same old here t m =
    let there : get_or (set before.marks i true) t false ≡ true = subst (λ ms. get_or ms t false ≡ true) same m in
    elim (cases_lt t i) [
      | inl less ↦ let ne : t ≢ i = omega arith in old t (sym (get_or-set_other before.marks i t true false ne) ∙ there)
      | inr more ↦ elim (cases_lt i t) [
        | inl past ↦ let ne : t ≢ i = omega arith in old t (sym (get_or-set_other before.marks i t true false ne) ∙ there)
        | inr same' ↦ let e : i ≡ t = omega arith in subst P e here
      ]
    ]

-- no mark stands at first
pub gone_none : (s : Sheet) (v : Survey) (begun closed : Slots) → ((t : ℕ) → get_or begun.marks t false ≡ false) →
    ((t : ℕ) → get_or closed.marks t false ≡ false) → GoneThrough s v begun closed
gone_none s v begun closed b c =
    record { begun = λ t m. absurd (false≢true (sym (b t) ∙ m)); closed = λ t m. absurd (false≢true (sym (c t) ∙ m)) }

module _ (s : Sheet) (begun closed : Slots) where
  -- what was found grows
  pub gone_still : (v w : Survey) → Grows (count s) v w → GoneThrough s v begun closed → GoneThrough s w begun closed
  gone_still v w on g = record { begun = λ t m. from_still s v w on t (g.begun t m); closed = λ t m. to_still s v w on t (g.closed t m) }

  module _ (v : Survey) (g : ∥ GoneThrough s v begun closed ∥₁) where
    pub was_begun : (t : ℕ) → get_or begun.marks t false ≡ true → AccountedFrom s v t
    was_begun t m = ∥∥₁_elim g (From-prop s v t) (λ h. h.begun t m)

    pub was_closed : (t : ℕ) → get_or closed.marks t false ≡ true → AccountedTo s v t
    was_closed t m = ∥∥₁_elim g (To-prop s v t) (λ h. h.closed t m)

    -- one point more
    pub gone_begun : (after : Slots) (t : ℕ) → after.marks ≡ set begun.marks t true → AccountedFrom s v t → ∥ GoneThrough s v after closed ∥₁
    gone_begun after t same here =
        ∥∥₁_map g (λ h. record { begun = marks_more (AccountedFrom s v) begun after t same h.begun here; closed = h.closed })

    pub gone_closed : (after : Slots) (t : ℕ) → after.marks ≡ set closed.marks t true → AccountedTo s v t → ∥ GoneThrough s v begun after ∥₁
    gone_closed after t same here =
        ∥∥₁_map g (λ h. record { begun = h.begun; closed = marks_more (AccountedTo s v) closed after t same h.closed here })
