-- A sheet has an elastic schedule if and only if it has no overfull interval.
use Rattle.std.proofs.Common.{◌≡◌, ℕ, zero, suc, ◌+◌, ◌-◌, ◌*◌, ◌<◌, ◌≤◌, ◌&&◌, leb, ◌⊎◌, refl, ap, ◌∙◌, inl, inr, mul-le-mul_right, mul_comm, mul-le-mul_left, mul-zero, mul-add, arith}
use Rattle.std.proofs.lemmas.Bool.{cases_lt, cases_eq, cond_both, and_parts, and_cases, leb-true, leb-false}
use Rattle.model.specs.Total.{total}
use Rattle.model.specs.declared.entries.Entry.{Entry}
use Rattle.model.specs.Sheets.{Sheet, Sound, Elastic, count, entry, work, horizon}
use Rattle.model.specs.Energy.{NowhereOverfull, work_inside, work_in}
use Rattle.model.proofs.Sums.{total_ext, total_le, total_scale, total_swap, total_zero, total_const, total_between, between, below_suc}
use Rattle.elastic.proofs.Hall.{inside, load, Filled, fill}

pub find : (n : ℕ) (f : ℕ → ℕ) (a : ℕ) → ((i : ℕ) × (i < n) × (f i ≡ a)) ⊎ ((i : ℕ) → i < n → f i ≡ a → ⊥)
find zero f a = inr (λ i l e. omega arith)
find (suc n) f a =
    elim (find n f a) [
      | inl h ↦ inl (h.0, omega arith, h.2)
      | inr no_more ↦
          elim (cases_eq (f n) a) [ inl e ↦ inl (n, omega arith, e) | inr ne ↦ inr (below_suc (λ i. f i ≡ a → ⊥) n no_more ne) ]
    ]

module _ (H n : ℕ) (r d w : ℕ → ℕ) (C : ℕ) where
  -- what is filled in has no interval with too much work
  sound : Filled H n r d w (λ t. C) → (a b : ℕ) → load n r d w a b ≤ C * (b - a)
  sound f a b =
      let each : load n r d w a b ≤ total n (λ i. total H (λ k. between a b k * f.given i k)) =
      total_le n _ _ (λ i l.
      rw (← f.whole i l, ← total_scale H (inside a b (r i) (d i)) (f.given i))
      (total_le H _ _ (λ k m. one i k l))) in
      let swapped = total_swap n H (λ i k. between a b k * f.given i k) in
      let bounded : total H (λ k. total n (λ i. between a b k * f.given i k)) ≤ total H (λ k. C * between a b k) =
      total_le H _ _ (λ k m.
      rw (total_scale n (between a b k) (λ i. f.given i k), mul_comm C (between a b k)) (mul-le-mul_left (between a b k) (f.within k))) in
      let scaled = total_scale H C (between a b) in
      let long = total_between H a b in
      let last : C * total H (between a b) ≤ C * (b - a) = mul-le-mul_left C (omega arith) in
      omega arith
    where
      one : (i k : ℕ) → i < n → inside a b (r i) (d i) * f.given i k ≤ between a b k * f.given i k
      one i k l =
          elim (cases_lt k (r i)) [
            | inl m ↦ rw (f.before i k l m) (omega (arith, mul-zero (inside a b (r i) (d i))))
            | inr m ↦
                elim (cases_lt k (d i)) [
                  | inr q ↦ rw (f.after i k l q) (omega (arith, mul-zero (inside a b (r i) (d i))))
                  | inl q ↦ mul-le-mul_right (f.given i k) (omega arith)
                ]
          ]

  -- where no interval from a release to a deadline has too much work, none has
  module _ (ordered : (i : ℕ) → i < n → r i < d i)
      (none : (i j : ℕ) → i < n → j < n → r i < d j → load n r d w (r i) (d j) ≤ C * (d j - r i)) where
    shrink : (N a b : ℕ) → b ≡ a + N → C * a + load n r d w a b ≤ C * b
    shrink zero a b e =
        let z : load n r d w a b ≡ 0 =
        total_ext n _ _
        (λ i l. let z : inside a b (r i) (d i) ≡ 0 = omega (arith, ordered i l) in rw z (omega arith))
        ∙ total_zero n in
        let ab : b ≡ a = omega arith in
        rw z (rw ab (omega arith))
    shrink (suc N) a b e =
        elim (find n r a) [
          | inr no-release ↦
              let less : load n r d w a b ≤ load n r d w (suc a) b =
              total_le n _ _
              (λ i l. mul-le-mul_right (w i) (omega (arith, no-release i l))) in
              let rest = shrink N (suc a) b (omega arith) in
              omega arith
          | inl i ↦
              elim (find n d b) [
                | inr no-deadline ↦
                    let less : load n r d w a b ≤ load n r d w a (a + N) =
                    total_le n _ _
                    (λ i l. mul-le-mul_right (w i) (omega (arith, no-deadline i l))) in
                    let rest = shrink N a (a + N) refl in
                    let more : C * (a + N) ≤ C * b = mul-le-mul_left C (omega arith) in
                    omega arith
                | inl j ↦
                    let h = none i.0 j.0 i.1 j.1 (omega arith) in
                    let long : b - a ≡ suc N = omega arith in
                    let h' : load n r d w a b ≤ C * suc N = rw long at (rw (i.2, j.2) at h) in
                    let split : C * b ≡ C * a + C * suc N = ap (λ x. C * x) e ∙ mul-add C a (suc N) in
                    omega arith
              ]
        ]

    complete : ((i : ℕ) → i < n → d i ≤ H) → Filled H n r d w (λ t. C)
    complete ends =
        fill H n r d (λ i l. omega (arith, ordered i l)) ends (total n w) w (λ t. C) refl
        (λ a b l. rw (total_const a C, total_const b C) (shrink (b - a) a b (omega arith)))

-- the work inside an interval, as a product
inside_work : (a b : ℕ) (e : Entry) → work_inside a b e ≡ inside a b e.release e.deadline * work e
inside_work a b e =
    cond_both (leb a e.release && leb e.deadline b) (work e) 0 (λ x. x ≡ inside a b e.release e.deadline * work e)
    (λ yes-inside.
    let p = and_parts (leb a e.release) (leb e.deadline b) yes-inside in
    let one : inside a b e.release e.deadline ≡ 1 =
    omega (arith, leb-true a e.release p.0, leb-true e.deadline b p.1) in
    rw one (omega arith))
    (λ outside.
    let zero-there : inside a b e.release e.deadline ≡ 0 =
    elim (and_cases (leb a e.release) (leb e.deadline b) outside)
    [ inl q ↦ omega (arith, leb-false a e.release q) | inr q ↦ omega (arith, leb-false e.deadline b q) ] in
    rw zero-there (omega arith))

module _ (s : Sheet) where
  pub as_load : (a b : ℕ) → total (count s) (λ i. work_inside a b (entry s i))
      ≡ load (count s) (λ i. (entry s i).release) (λ i. (entry s i).deadline) (λ i. work (entry s i)) a b
  as_load a b =
      total_ext (count s) _ _
      (λ i l. inside_work a b (entry s i))

  -- past the horizon nothing is given
  pub past : Sound s → (f : Elastic s) (t : ℕ) → horizon ≤ t → total (count s) (λ i. f.given i t) ≡ 0
  past good f t l = total_ext (count s) _ _ (λ i m. f.after i t m (omega (arith, good.each i m))) ∙ total_zero (count s)

  unfoldable pub to_filled : Sound s → Elastic s
      → Filled horizon (count s) (λ i. (entry s i).release) (λ i. (entry s i).deadline) (λ i. work (entry s i)) (λ t. s.capacity)
  to_filled good f =
      record {
        given = f.given;
        before = f.before;
        after = f.after;
        whole = f.whole;
        within = λ t. elim (cases_lt t horizon) [ inl l ↦ f.within t l | inr l ↦ omega (arith, past good f t l) ];
      }

  unfoldable pub from_filled : Filled horizon (count s) (λ i. (entry s i).release) (λ i. (entry s i).deadline) (λ i. work (entry s i)) (λ t. s.capacity)
      → Elastic s
  from_filled f = record { given = f.given; before = f.before; after = f.after; whole = f.whole; within = λ t l. f.within t }

  pub not_overfull : Sound s → Elastic s → NowhereOverfull s
  not_overfull good f t1 t2 o =
      let h = sound horizon (count s) (λ i. (entry s i).release) (λ i. (entry s i).deadline) (λ i. work (entry s i)) s.capacity
      (to_filled good f) t1 t2 in
      omega (arith, o.over, as_load t1 t2)

  pub elastic : Sound s → NowhereOverfull s → Elastic s
  elastic good none =
      from_filled
      (complete horizon (count s) (λ i. (entry s i).release) (λ i. (entry s i).deadline) (λ i. work (entry s i)) s.capacity
      (λ i l. omega (arith, good.each i l))
      (λ i j li lj l. elim (cases_lt (s.capacity * ((entry s j).deadline - (entry s i).release))
      (total (count s) (λ k. work_inside (entry s i).release (entry s j).deadline (entry s k)))) [
        | inl over ↦ absurd (none (entry s i).release (entry s j).deadline (record { opens = (i, li, refl); closes = (j, lj, refl); ordered = l; over = over }))
        | inr under ↦ omega (arith, as_load (entry s i).release (entry s j).deadline)
      ])
      (λ i l. (good.each i l).within))

  -- where no interval from a release to a deadline is overfull, no interval at all has more work than room
  pub everywhere : Sound s → NowhereOverfull s → (t1 t2 : ℕ) → work_in s t1 t2 ≤ s.capacity * (t2 - t1)
  everywhere good none t1 t2 =
      let h = sound horizon (count s) (λ i. (entry s i).release) (λ i. (entry s i).deadline) (λ i. work (entry s i)) s.capacity
      (to_filled good (elastic good none)) t1 t2 in
      omega (arith, as_load t1 t2)
