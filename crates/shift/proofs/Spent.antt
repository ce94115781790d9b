-- What a placement spends in an interval: at least the energies, and so late an entry ends.
use Rattle.std.proofs.Common.{◌≡◌, ℕ, zero, suc, ◌+◌, ◌-◌, ◌*◌, ◌<◌, ◌≤◌, min, max, cond, ◌&&◌, ltb, leb, ap, ◌∙◌, mul-le-mul_left, arith}
use native.Mathlib.Decide.{dec_lt}
use Rattle.std.proofs.lemmas.Bool.Decides.{nat_tests}
use Rattle.model.specs.declared.entries.Entry.{Entry}
use Rattle.model.specs.Total.{total}
use Rattle.model.specs.Sheets.{Sheet, Sound, Placement, count, entry, horizon, demand_at}
use Rattle.model.specs.Energy.{left_part, held, energy_of, energy, IsInterval, NegativeSlack, energy_of_others, lack, ceiling}
use Rattle.model.proofs.Sums.{total_le, total_ext, total_add, total_zero}
use Rattle.model.proofs.Ceilings.{ceiling_least}
use Rattle.model.proofs.Others.{without, total_without, without_le}
use Rattle.shift.proofs.Slots.{early_after}
use Rattle.shift.proofs.Energies.{energy_is, lack_by_energy}

-- ---- one entry

-- the slots that [start, start + p) and [t1, t2) share
overlap : ℕ → ℕ → ℕ → ℕ → ℕ
overlap start p t1 t2 = min (start + p) t2 - max start t1

-- 1 where an entry that begins at `start` runs in slot t, else 0
runs : ℕ → ℕ → ℕ → ℕ
runs start p t = cond (leb start t && ltb t (start + p)) 1 0

one_more : (start p t1 t : ℕ) → t1 ≤ t → overlap start p t1 (suc t) ≡ overlap start p t1 t + runs start p t
unfolding overlap runs
one_more start p t1 t h = grind (arith, nat_tests)

runs_demand : (e : Entry) (start t : ℕ) → e.demand * runs start e.duration t ≡ demand_at start t e
unfolding runs
runs_demand e start t = grind (arith, nat_tests)

overlap_more : (e : Entry) (start t1 t : ℕ) → t1 ≤ t →
    e.demand * overlap start e.duration t1 (suc t) ≡ e.demand * overlap start e.duration t1 t + demand_at start t e
overlap_more e start t1 t h =
    omega (arith, ap (λ (x : ℕ). e.demand * x) (one_more start e.duration t1 t h), runs_demand e start t)

overlap_none : (start p t1 : ℕ) → overlap start p t1 t1 ≡ 0
unfolding overlap
overlap_none start p t1 = omega arith

held_overlap : (e : Entry) (start t1 t2 : ℕ) → e.release ≤ start → start + e.duration ≤ e.deadline →
    held e t1 t2 ≤ overlap start e.duration t1 t2
unfolding overlap
held_overlap e start t1 t2 low high = omega arith

-- an entry that runs less in [t1, t2) than when it starts early ends past t2
late : (e : Entry) (start t1 t2 : ℕ) → e.release ≤ start → t1 < t2 → overlap start e.duration t1 t2 < min (t2 - t1) (left_part e t1) →
    min (t2 - t1) (left_part e t1) + t2 ≤ overlap start e.duration t1 t2 + (start + e.duration)
unfolding overlap
late e start t1 t2 low o h = omega arith

-- ---- all entries
module _ (s : Sheet) (start : ℕ → ℕ) (p : Placement s start) where
  -- what the entry at place k spends in [t1, t2)
  abbrev spends : ℕ → ℕ → ℕ → ℕ
  spends t1 t2 k = (entry s k).demand * overlap (start k) (entry s k).duration t1 t2

  spent_none : (t1 : ℕ) → total (count s) (spends t1 t1) ≡ 0
  spent_none t1 =
      total_ext (count s) _ _ (λ k l.
      omega (arith, ap (λ (x : ℕ). (entry s k).demand * x) (overlap_none (start k) (entry s k).duration t1)))
      ∙ total_zero (count s)

  spent_fits : (t1 n : ℕ) → t1 + n ≤ horizon → total (count s) (spends t1 (t1 + n)) ≤ s.capacity * n
  spent_fits t1 zero h =
      let at : t1 + 0 ≡ t1 = omega arith in
      omega (arith, spent_none t1, ap (λ (t : ℕ). total (count s) (spends t1 t)) at)
  spent_fits t1 (suc n) h =
      let t = t1 + n in
      let more : total (count s) (spends t1 (suc t)) ≡ total (count s) (λ k. spends t1 t k + demand_at (start k) t (entry s k)) =
      total_ext (count s) _ _ (λ k l. overlap_more (entry s k) (start k) t1 t (omega arith)) in
      let sum = total_add (count s) (spends t1 t) (λ k. demand_at (start k) t (entry s k)) in
      let before = spent_fits t1 n (omega arith) in
      let now = p.within t (omega arith) in
      let at : t1 + suc n ≡ suc t = omega arith in
      omega (arith, ap (λ (t : ℕ). total (count s) (spends t1 t)) at)

  spent_within : (t1 t2 : ℕ) → IsInterval t1 t2 → total (count s) (spends t1 t2) ≤ s.capacity * (t2 - t1)
  spent_within t1 t2 i =
      let at : t1 + (t2 - t1) ≡ t2 = omega arith in
      rw at at (spent_fits t1 (t2 - t1) (omega arith))

  energy_spent : (t1 t2 k : ℕ) → k < count s → energy_of (entry s k) t1 t2 ≤ spends t1 t2 k
  energy_spent t1 t2 k l =
      let h = held_overlap (entry s k) (start k) t1 t2 (p.released k l) (p.in_time k l) in
      omega (arith, energy_is (entry s k) t1 t2, mul-le-mul_left (entry s k).demand h)

  -- a placement leaves no slack negative
  pub never_negative : (t1 t2 : ℕ) → IsInterval t1 t2 → ¬ NegativeSlack s t1 t2
  never_negative t1 t2 i over =
      let le : energy s t1 t2 ≤ total (count s) (spends t1 t2) = total_le (count s) _ _ (energy_spent t1 t2) in
      omega (arith, spent_within t1 t2 i)

  others_spent : (k : ℕ) → k < count s → (t1 t2 : ℕ) → IsInterval t1 t2 →
      energy_of_others s k t1 t2 + spends t1 t2 k ≤ s.capacity * (t2 - t1)
  others_spent k l t1 t2 i =
      let le : energy_of_others s k t1 t2 ≤ total (count s) (without k (spends t1 t2)) =
      without_le (count s) k (λ j. energy_of (entry s j) t1 t2) (spends t1 t2) (energy_spent t1 t2) in
      omega (arith, total_without (count s) k (spends t1 t2) l, spent_within t1 t2 i)

-- ---- forced ends
-- m slots are wanted, ov are taken, and room is left for no more: what is lacking is at most c for each slot in between
lacking : (c m ov other room : ℕ) → other + c * ov ≤ room → 0 < (other + c * m) - room → (ov < m) × ((other + c * m) - room ≤ c * (m - ov))
lacking c m ov other room fits x =
    elim (dec_lt ov m) [
      | no l ↦ let t : m ≤ ov = omega arith in absurd (omega (arith, mul-le-mul_left c t))
      | yes l ↦
          let split : m ≡ ov + (m - ov) = omega arith in
          (l, omega (arith, ap (λ (x : ℕ). c * x) split))
    ]

-- a placement ends the entry at place k no earlier than an interval forces it to
pub ends_late : (s : Sheet) → Sound s → (start : ℕ → ℕ) → Placement s start → (k : ℕ) → k < count s → (t1 t2 : ℕ) → IsInterval t1 t2 →
    0 < lack s k t1 t2 → t2 + ceiling (lack s k t1 t2) (entry s k).demand ≤ start k + (entry s k).duration
ends_late s sound start p k l t1 t2 i short =
    let e = entry s k in
    let m = min (t2 - t1) (left_part e t1) in
    let ov = overlap (start k) e.duration t1 t2 in
    let (less, few) = lacking e.demand m ov (energy_of_others s k t1 t2) (s.capacity * (t2 - t1)) (others_spent s start p k l t1 t2 i) short in
    let far = late e (start k) t1 t2 (p.released k l) i.ordered less in
    let by = ceiling_least (lack s k t1 t2) e.demand (m - ov) (sound.each k l).asks few in
    omega arith

-- where an interval has no negative slack, it forces no entry past its deadline
pub forced_inside : (s : Sheet) → Sound s → (k : ℕ) → k < count s → (t1 t2 : ℕ) → ¬ NegativeSlack s t1 t2 → t2 < (entry s k).deadline →
    t2 + ceiling (lack s k t1 t2) (entry s k).demand ≤ (entry s k).deadline
forced_inside s sound k l t1 t2 under before =
    let e = entry s k in
    let m = min (t2 - t1) (left_part e t1) in
    let is = lack_by_energy s k t1 t2 l (omega arith) in
    let small : lack s k t1 t2 ≤ e.demand * (m - held e t1 t2) = omega arith in
    let by = ceiling_least (lack s k t1 t2) e.demand (m - held e t1 t2) (sound.each k l).asks small in
    omega (arith, early_after e t1 t2 before)
