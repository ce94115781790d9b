-- Energies of all entries: inequalities that hold of each hold of the sums.
use Rattle.std.proofs.Common.{◌≡◌, ℕ, ◌+◌, ◌-◌, ◌*◌, ◌<◌, ◌≤◌, min, refl, ap, ◌∙◌, mul-le-mul_left, arith}
use Rattle.model.specs.declared.entries.Entry.{Entry}
use Rattle.model.specs.Total.{total}
use Rattle.model.specs.Sheets.{Sheet, count, entry}
use Rattle.model.specs.Energy.{held, left_part, energy_of, energy, energy_of_others, lack}
use Rattle.model.proofs.Sums.{total_le, total_ext, total_add, total_scale, total_zero}
use Rattle.model.proofs.Others.{total_without}
use Rattle.shift.proofs.Slots.{held_none, held_early, early_within}

pub energy_is : (e : Entry) (t1 t2 : ℕ) → energy_of e t1 t2 ≡ e.demand * held e t1 t2
unfolding energy_of
energy_is e t1 t2 = refl

one_le : (e : Entry) (k t1 t2 u1 u2 v1 v2 : ℕ) → k * held e t1 t2 ≤ held e u1 u2 + held e v1 v2 →
    k * energy_of e t1 t2 ≤ energy_of e u1 u2 + energy_of e v1 v2
unfolding energy_of
one_le e k t1 t2 u1 u2 v1 v2 h = let here = mul-le-mul_left e.demand h in omega arith

pub energy_le : (s : Sheet) (k t1 t2 u1 u2 v1 v2 : ℕ) →
    ((j : ℕ) → j < count s → k * held (entry s j) t1 t2 ≤ held (entry s j) u1 u2 + held (entry s j) v1 v2) →
    k * energy s t1 t2 ≤ energy s u1 u2 + energy s v1 v2
energy_le s k t1 t2 u1 u2 v1 v2 h =
    let n = count s in
    let le : total n (λ j. k * energy_of (entry s j) t1 t2) ≤ total n (λ j. energy_of (entry s j) u1 u2 + energy_of (entry s j) v1 v2) =
    total_le n _ _ (λ j l. one_le (entry s j) k t1 t2 u1 u2 v1 v2 (h j l)) in
    omega (
      arith,
      total_scale n k (λ j. energy_of (entry s j) t1 t2),
      total_add n (λ j. energy_of (entry s j) u1 u2) (λ j. energy_of (entry s j) v1 v2),
    )

pub energy_none : (s : Sheet) (t1 t2 : ℕ) → t2 ≤ t1 → energy s t1 t2 ≡ 0
energy_none s t1 t2 o =
    total_ext (count s) _ _ (λ j l. omega (arith, energy_is (entry s j) t1 t2, ap (λ (k : ℕ). (entry s j).demand * k) (held_none (entry s j) t1 t2 o)))
    ∙ total_zero (count s)

-- ---- the others

-- the energies are those of the others and that of the entry at place k
pub energy_split : (s : Sheet) (k t1 t2 : ℕ) → k < count s → energy_of_others s k t1 t2 + energy_of (entry s k) t1 t2 ≡ energy s t1 t2
energy_split s k t1 t2 l = total_without (count s) k (λ j. energy_of (entry s j) t1 t2) l

module _ (s : Sheet) (k t1 t2 : ℕ) (l : k < count s) where
  -- c * early is c * held and c * (early - held)
  parts : (entry s k).demand * min (t2 - t1) (left_part (entry s k) t1) ≡
      energy_of (entry s k) t1 t2 + (entry s k).demand * (min (t2 - t1) (left_part (entry s k) t1) - held (entry s k) t1 t2)
  parts =
      let e = entry s k in
      let early = min (t2 - t1) (left_part e t1) in
      let h = held_early e t1 t2 in
      let split : early ≡ held e t1 t2 + (early - held e t1 t2) = omega arith in
      omega (arith, energy_is e t1 t2, ap (λ (x : ℕ). e.demand * x) split)

  -- one sum of energies serves every entry
  pub lack_by_energy : energy s t1 t2 ≤ s.capacity * (t2 - t1) →
      lack s k t1 t2 ≡
      (entry s k).demand * (min (t2 - t1) (left_part (entry s k) t1) - held (entry s k) t1 t2) - (s.capacity * (t2 - t1) - energy s t1 t2)
  lack_by_energy under = omega (arith, parts, energy_split s k t1 t2 l)

  -- an interval with room for the whole work of an entry beside all energies forces nothing on it
  pub lack_none : energy s t1 t2 + (entry s k).duration * (entry s k).demand ≤ s.capacity * (t2 - t1) → lack s k t1 t2 ≡ 0
  lack_none wide =
      let most = mul-le-mul_left (entry s k).demand (early_within (entry s k) t1 t2) in
      omega (arith, energy_split s k t1 t2 l)
