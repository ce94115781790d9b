-- An interval of greatest excess, and among those of greatest length, is a candidate.
use Rattle.std.proofs.Common.{◌≡◌, ℕ, ◌+◌, ◌-◌, ◌*◌, ◌<◌, ◌≤◌, ◌≢◌, ◌⊎◌, sym, ap, inl, inr, arith}
use native.Mathlib.Decide.{dec_le, dec_lt, ℕ_discrete}
use Rattle.model.specs.declared.entries.Entry.{Entry}
use Rattle.model.specs.Sheets.{Sheet, Sound, count, entry, horizon}
use Rattle.model.specs.Energy.{energy, IsInterval, SomeEntry, Starts, Ends, Partners, Candidate, NegativeSlack}
use Rattle.model.proofs.Search.{least}
use Rattle.model.proofs.Largest.{LargestPair, largest_pair}
use Rattle.shift.specs.Theorems.{LeastSlackIsAtACandidate}
use Rattle.shift.proofs.Slots.{end_convex, start_convex, both_convex, single_triple, end_idle, start_idle}
use Rattle.shift.proofs.Energies.{energy_le, energy_none}

-- ---- some entry or none

-- P fails of every entry.
abbrev NoEntry : Sheet → (Entry → Type 0) → Type 0
NoEntry s P = (k : ℕ) → k < count s → ¬ P (entry s k)

some_or_none : (s : Sheet) (P : Entry → Type 0) → ((e : Entry) → Dec (P e)) → SomeEntry s P ⊎ NoEntry s P
some_or_none s P dec =
    elim (least (λ k. P (entry s k)) (λ k. dec (entry s k)) (count s)) [
      | inl (m, l, p, low) ↦ inl (m, l, p)
      | inr none ↦ inr none
    ]

dec_or : {A B : Type 0} → Dec A → Dec B → Dec (A ⊎ B)
dec_or (yes a) b = yes (inl a)
dec_or (no a) (yes b) = yes (inr b)
dec_or (no a) (no b) = no (elim [ inl x ↦ a x | inr x ↦ b x ])

starts? : (t : ℕ) (e : Entry) → Dec (Starts t e)
starts? t e = dec_or (ℕ_discrete _ _) (dec_or (ℕ_discrete _ _) (ℕ_discrete _ _))

ends? : (t : ℕ) (e : Entry) → Dec (Ends t e)
ends? t e = dec_or (ℕ_discrete _ _) (dec_or (ℕ_discrete _ _) (ℕ_discrete _ _))

partners? : (t1 t2 : ℕ) (e : Entry) → Dec (Partners t1 t2 e)
partners? t1 t2 e = ℕ_discrete _ _

-- ---- the best interval

-- the excess of an interval, and the room of the whole horizon: no number below zero
value : Sheet → ℕ → ℕ → ℕ
value s t1 t2 = energy s t1 t2 + s.capacity * (horizon - (t2 - t1))

score : Sheet → ℕ → ℕ → ℕ
score s t1 t2 = value s t1 t2 * 5000 + (t2 - t1)

record Best (s : Sheet) (t1 t2 : ℕ) : Type 0 where
  greatest : (u1 u2 : ℕ) → u1 ≤ horizon → u2 ≤ horizon → value s u1 u2 ≤ value s t1 t2
  longest : (u1 u2 : ℕ) → u1 ≤ horizon → u2 ≤ horizon → value s t1 t2 ≤ value s u1 u2 → u2 - u1 ≤ t2 - t1

best : (s : Sheet) → (t1 t2 : ℕ) × (t1 ≤ horizon) × (t2 ≤ horizon) × Best s t1 t2
unfolding score
best s =
    let p : LargestPair (score s) horizon = largest_pair (score s) horizon in (
      p.0,
      p.1,
      p.2,
      p.3,
      record {
        greatest = λ u1 u2 i j. let g = p.4 u1 u2 i j in omega arith;
        longest = λ u1 u2 i j h. let g = p.4 u1 u2 i j in omega arith;
      },
    )

-- none of a best interval's neighbours can do as well and be longer
module _ (s : Sheet) (t1 t2 : ℕ) (b : Best s t1 t2) where
  no_convex : (δ u1 u2 v1 v2 : ℕ) → 1 ≤ δ → u1 ≤ horizon → u2 ≤ horizon → v1 ≤ horizon → v2 ≤ horizon → t1 ≤ t2 → t2 ≤ horizon →
      u2 - u1 ≡ (t2 - t1) + δ → (v2 - v1) + δ ≡ t2 - t1 → 2 * energy s t1 t2 ≤ energy s u1 u2 + energy s v1 v2 → ⊥
  unfolding value
  no_convex δ u1 u2 v1 v2 d iu1 iu2 iv1 iv2 o i lu lv h =
      let ku : (horizon - (u2 - u1)) + δ ≡ horizon - (t2 - t1) = omega arith in
      let kv : (horizon - (t2 - t1)) + δ ≡ horizon - (v2 - v1) = omega arith in
      let cu = ap (λ (k : ℕ). s.capacity * k) ku in
      let cv = ap (λ (k : ℕ). s.capacity * k) kv in
      let g = b.greatest v1 v2 iv1 iv2 in
      let l = b.longest u1 u2 iu1 iu2 (omega arith) in
      omega arith

  no_idle : (u1 u2 : ℕ) → 1 ≤ s.capacity → u1 ≤ horizon → u2 ≤ horizon → t2 ≤ horizon → (u2 - u1) + 1 ≡ t2 - t1 →
      energy s t1 t2 ≤ energy s u1 u2 → ⊥
  unfolding value
  no_idle u1 u2 c iu1 iu2 i lu h =
      let ku : (horizon - (t2 - t1)) + 1 ≡ horizon - (u2 - u1) = omega arith in
      let cu = ap (λ (k : ℕ). s.capacity * k) ku in
      let g = b.greatest u1 u2 iu1 iu2 in
      omega arith

  no_triple : (u1 u2 : ℕ) → u1 ≤ horizon → u2 ≤ horizon → t2 ≡ t1 + 1 → u2 - u1 ≡ 3 → NegativeSlack s t1 t2 →
      3 * energy s t1 t2 ≤ energy s u1 u2 → ⊥
  unfolding value
  no_triple u1 u2 iu1 iu2 one three over h =
      let lt : t2 - t1 ≡ 1 = omega arith in
      let kt : horizon - (t2 - t1) ≡ 4031 = omega arith in
      let ku : horizon - (u2 - u1) ≡ 4029 = omega arith in
      let c1 = ap (λ (k : ℕ). s.capacity * k) lt in
      let ct = ap (λ (k : ℕ). s.capacity * k) kt in
      let cu = ap (λ (k : ℕ). s.capacity * k) ku in
      let g = b.greatest u1 u2 iu1 iu2 in
      omega arith

module _ (s : Sheet) (sound : Sound s) (t1 t2 : ℕ) (i : IsInterval t1 t2) (b : Best s t1 t2) where
  -- where the end stands at no end point, there is a slot after it: else every deadline has passed, and the last slot is idle
  end_room : NoEntry s (Ends t2) → t2 + 1 ≤ horizon
  end_room n =
      elim (dec_le (t2 + 1) horizon) [
        | yes h ↦ h
        | no h ↦
            let le = energy_le s 1 t1 t2 t1 (t2 - 1) 0 0 (λ j l.
            let good = sound.each j l in
            let d : (entry s j).deadline ≢ t2 = λ x. n j l (inl (sym x)) in
            let before : (entry s j).deadline < t2 = omega arith in
            omega (arith, end_idle (entry s j) t1 t2 good.room before)) in
            absurd (no_idle s t1 t2 b t1 (t2 - 1) sound.some_capacity (omega arith) (omega arith) i.inside (omega arith) (omega (arith, energy_none s 0 0 (omega arith))))
      ]

  start_room : NoEntry s (Starts t1) → 0 < t1
  start_room n =
      elim (dec_le 1 t1) [
        | yes h ↦ h
        | no h ↦
            let le = energy_le s 1 t1 t2 (t1 + 1) t2 0 0 (λ j l.
            let good = sound.each j l in
            let d : t1 ≢ (entry s j).release = λ x. n j l (inl x) in
            let before : t1 < (entry s j).release = omega arith in
            omega (arith, start_idle (entry s j) t1 t2 good.room before)) in
            absurd (no_idle s t1 t2 b (t1 + 1) t2 sound.some_capacity (omega arith) (omega arith) i.inside (omega arith) (omega (arith, energy_none s 0 0 (omega arith))))
      ]

  end_moves : NoEntry s (Ends t2) → NoEntry s (Partners t1 t2) → ⊥
  end_moves n m =
      let r = end_room n in
      no_convex s t1 t2 b 1 t1 (t2 + 1) t1 (t2 - 1) (omega arith) (omega arith) r (omega arith) (omega arith) (omega arith) i.inside
      (omega arith) (omega arith)
      (energy_le s 2 t1 t2 t1 (t2 + 1) t1 (t2 - 1) (λ j l. end_convex (entry s j) t1 t2 (sound.each j l).room i.ordered (n j l) (m j l)))

  start_moves : NoEntry s (Starts t1) → NoEntry s (Partners t1 t2) → ⊥
  start_moves n m =
      let r = start_room n in
      no_convex s t1 t2 b 1 (t1 - 1) t2 (t1 + 1) t2 (omega arith) (omega arith) (omega arith) (omega arith) (omega arith) (omega arith) i.inside
      (omega arith) (omega arith)
      (energy_le s 2 t1 t2 (t1 - 1) t2 (t1 + 1) t2 (λ j l. start_convex (entry s j) t1 t2 (sound.each j l).room r i.ordered (n j l) (m j l)))

  both_move : NegativeSlack s t1 t2 → NoEntry s (Starts t1) → NoEntry s (Ends t2) → ⊥
  both_move over n m =
      let r1 = start_room n in
      let r2 = end_room m in
      elim (dec_le (t1 + 2) t2) [
        | yes h ↦
            no_convex s t1 t2 b 2 (t1 - 1) (t2 + 1) (t1 + 1) (t2 - 1) (omega arith) (omega arith) r2 (omega arith) (omega arith) (omega arith) i.inside
            (omega arith) (omega arith)
            (energy_le s 2 t1 t2 (t1 - 1) (t2 + 1) (t1 + 1) (t2 - 1) (λ j l. both_convex (entry s j) t1 t2 (sound.each j l).room r1 h (n j l) (m j l)))
        | no h ↦
            let one : t2 ≡ t1 + 1 = omega arith in
            let le = energy_le s 3 t1 t2 (t1 - 1) (t2 + 1) 0 0 (λ j l.
            omega (arith, single_triple (entry s j) t1 t2 (sound.each j l).room r1 one (n j l) (m j l))) in
            no_triple s t1 t2 b (t1 - 1) (t2 + 1) (omega arith) r2 one (omega arith) over
            (omega (arith, energy_none s 0 0 (omega arith)))
      ]

  best_is_candidate : NegativeSlack s t1 t2 → Candidate s t1 t2
  best_is_candidate over =
      elim (some_or_none s (Starts t1) (starts? t1)) [
        | inl st ↦
            elim (some_or_none s (Ends t2) (ends? t2)) [
              | inl en ↦ record { interval = i; points = inl (st, en) }
              | inr ne ↦
                  elim (some_or_none s (Partners t1 t2) (partners? t1 t2)) [
                    | inl pa ↦ record { interval = i; points = inr (inl (st, pa)) }
                    | inr np ↦ absurd (end_moves ne np)
                  ]
            ]
        | inr ns ↦
            elim (some_or_none s (Ends t2) (ends? t2)) [
              | inl en ↦
                  elim (some_or_none s (Partners t1 t2) (partners? t1 t2)) [
                    | inl pa ↦ record { interval = i; points = inr (inr (en, pa)) }
                    | inr np ↦ absurd (start_moves ns np)
                  ]
              | inr ne ↦ absurd (both_move over ns ne)
            ]
      ]

room_split : (C t1 t2 : ℕ) → t2 ≤ horizon → C * (t2 - t1) + C * (horizon - (t2 - t1)) ≡ C * 4032
room_split C t1 t2 i =
    let k : (t2 - t1) + (horizon - (t2 - t1)) ≡ 4032 = omega arith in
    omega (arith, ap (λ (x : ℕ). C * x) k)

-- an interval of negative slack has a slot
some_slot : (s : Sheet) (t1 t2 : ℕ) → NegativeSlack s t1 t2 → t1 < t2
some_slot s t1 t2 o =
    elim (dec_lt t1 t2) [ yes h ↦ h | no h ↦ absurd (omega (arith, energy_none s t1 t2 (omega arith))) ]

pub least_slack_is_at_a_candidate : LeastSlackIsAtACandidate
unfolding value
least_slack_is_at_a_candidate s sound o =
    let b = best s in
    let t1 = b.0 in
    let t2 = b.1 in
    let better = b.4.greatest o.0 o.1 (omega arith) o.2.inside in
    let C = s.capacity in
    let eo : C * (o.1 - o.0) + C * (horizon - (o.1 - o.0)) ≡ C * 4032 = room_split C o.0 o.1 o.2.inside in
    let et : C * (t2 - t1) + C * (horizon - (t2 - t1)) ≡ C * 4032 = room_split C t1 t2 b.3 in
    let over : NegativeSlack s t1 t2 = omega arith in
    let i : IsInterval t1 t2 = record { ordered = some_slot s t1 t2 over; inside = b.3 } in (
      t1,
      t2,
      record { candidate = best_is_candidate s sound t1 t2 i b.4 over; negative = over },
      λ u1 u2 iu.
          let g = b.4.greatest u1 u2 (omega arith) iu.inside in
          let eu = room_split C u1 u2 iu.inside in
          omega arith,
    )
