-- How large the sums of a sheet within the limits can be: all fit 32 bits.
use Rattle.std.proofs.Common.{ℕ, ◌*◌, ◌<◌, ◌≤◌, mul-le-mul, mul-le-mul_left, arith}
use Rattle.std.proofs.lemmas.Bool.Decides.{nat_tests}
use Rattle.model.specs.declared.entries.Entry.{Entry}
use Rattle.model.specs.Total.{total}
use Rattle.model.specs.Sheets.{Sheet, Sound, count, entry, work, horizon, capacity_max, rows_max}
use Rattle.model.specs.Energy.{work_inside, work_in}
use Rattle.model.proofs.Sums.{total_le, total_const}

-- what is nowhere above m adds up to at most m times the number of places
pub total_most : (n m : ℕ) (f : ℕ → ℕ) → ((i : ℕ) → i < n → f i ≤ m) → total n f ≤ m * n
total_most n m f h = omega (arith, total_le n f (λ i. m) h, total_const n m)

module _ (s : Sheet) (sound : Sound s) where
  -- 4032 slots of 4095 channels
  pub work_small : (k : ℕ) → k < count s → work (entry s k) ≤ 16511040
  work_small k l =
      let g = sound.each k l in
      let p : (entry s k).duration ≤ horizon = omega arith in
      let c : (entry s k).demand ≤ capacity_max = omega (arith, sound.small_capacity) in
      omega (arith, mul-le-mul p c)

  pub work_in_small : (t1 t2 : ℕ) → work_in s t1 t2 ≤ 1056706560
  work_in_small t1 t2 =
      let each : work_in s t1 t2 ≤ 16511040 * count s = total_most (count s) 16511040 _ (λ k l. one (entry s k) (work_small k l)) in
      let few : 16511040 * count s ≤ 16511040 * rows_max = mul-le-mul_left 16511040 sound.few in
      omega arith
    where
      one : (e : Entry) → work e ≤ 16511040 → work_inside t1 t2 e ≤ 16511040
      one e l = grind (arith, nat_tests)
