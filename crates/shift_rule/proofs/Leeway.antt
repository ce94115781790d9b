-- With as much slack as its leeway an entry is forced to no start after its release.
use Rattle.std.proofs.Common.{◌≡◌, ℕ, ◌+◌, ◌-◌, ◌*◌, ◌≤◌, min, ◌&&◌, ltb, ap, inl, inr, mul-le-mul_left, arith}
use Rattle.std.proofs.lemmas.Bool.{cases_Bool, cases_lt, and_parts, ltb-true, cond-true, cond-false}
use Rattle.model.specs.declared.entries.Entry.{Entry}
use Rattle.model.specs.Energy.{left_part, right_part, held, ceiling}
use Rattle.model.proofs.Ceilings.{ceiling_least}
use Rattle.shift_rule.specs.Forced.{lack_beside, start_after}
use Rattle.shift_rule.specs.Leeways.{leeway}

module _ (e : Entry) (room : e.release + e.duration ≤ e.deadline) where
  -- the slots past t2 that an entry takes by starting early are among those that it runs there by ending late
  early_late : (t1 t2 : ℕ) → min (t2 - t1) (left_part e t1) - held e t1 t2 ≤ e.duration - right_part e t2
  early_late t1 t2 = omega arith

  -- what an interval lacks beside as much slack is made good by the slots from its end to the early end
  lack_least : (t1 t2 slack : ℕ) → leeway e t2 ≤ slack → lack_beside e t1 t2 slack ≤ e.demand * ((e.release + e.duration) - t2)
  lack_least t1 t2 slack wide =
      let early = min (t2 - t1) (left_part e t1) - held e t1 t2 in
      let late = e.duration - right_part e t2 in
      let past = (e.release + e.duration) - t2 in
      let most = mul-le-mul_left e.demand (early_late t1 t2) in
      elim (cases_lt late past) [
        | inl less ↦ let under : late ≤ past = omega arith in omega (arith, mul-le-mul_left e.demand under)
        | inr more ↦
            let split : late ≡ (late - past) + past = omega arith in
            omega (arith, ap (λ (n : ℕ). e.demand * n) split)
      ]

  pub stays_released : (t1 t2 slack : ℕ) → 1 ≤ e.demand → leeway e t2 ≤ slack → start_after e t1 t2 slack ≤ e.release
  stays_released t1 t2 slack asks wide =
      let lacks = lack_beside e t1 t2 slack in
      let least = lack_least t1 t2 slack wide in
      let past = (e.release + e.duration) - t2 in
      elim (cases_Bool (ltb t2 e.deadline && ltb 0 lacks)) [
        | inr no' ↦ omega (arith, cond-false (ltb t2 e.deadline && ltb 0 lacks) ((t2 + ceiling lacks e.demand) - e.duration) 0 no')
        | inl yes' ↦
            let (a, b) = and_parts (ltb t2 e.deadline) (ltb 0 lacks) yes' in
            let some = ltb-true 0 lacks b in
            let up = ceiling_least lacks e.demand past asks least in
            let is = cond-true (ltb t2 e.deadline && ltb 0 lacks) ((t2 + ceiling lacks e.demand) - e.duration) 0 yes' in
            elim (cases_lt (e.release + e.duration) t2) [
              | inl after ↦
                  let none : past ≡ 0 = omega arith in
                  absurd (omega (arith, ap (λ (n : ℕ). e.demand * n) none))
              | inr before ↦ omega arith
            ]
      ]

  -- an entry without a slot to spare, or released when the interval closes, has no leeway
  pub fixed_leeway : (t2 : ℕ) → e.deadline ≤ e.release + e.duration → leeway e t2 ≡ 0
  fixed_leeway t2 fixed =
      let none : (e.duration - right_part e t2) - ((e.release + e.duration) - t2) ≡ 0 = omega arith in
      omega (arith, ap (λ (n : ℕ). e.demand * n) none)

  pub late_leeway : (t2 : ℕ) → t2 ≤ e.release → leeway e t2 ≡ 0
  late_leeway t2 late =
      let none : (e.duration - right_part e t2) - ((e.release + e.duration) - t2) ≡ 0 = omega arith in
      omega (arith, ap (λ (n : ℕ). e.demand * n) none)
