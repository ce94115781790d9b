-- The energies of all entries in the intervals that share one end, by their length.
use Rattle.std.specs.Prelude.{◌≡◌, ℕ, ◌-◌, ◌*◌, ◌<◌, ◌≤◌, min, length, slice_index}
use Rattle.model.specs.Total.{total}
use Rattle.model.specs.Sheets.{Sheet, rows_max}
use Rattle.model.specs.Energy.{energy}
use Rattle.shift_rule.specs.declared.ramps.Ramp.{Ramp}
use Rattle.shift_rule.specs.declared.ramps.Slopes.{Slopes}

-- The energy at a distance on a ramp.
abbrev pub rise : Ramp → ℕ → ℕ
rise r far = r.demand * min (far - r.offset) r.length

-- The energy at a distance on the ramp at place k.
abbrev pub climb : Slopes → ℕ → ℕ → ℕ
climb r far k = slice_index r.demands k * min (far - slice_index r.offsets k) (slice_index r.lengths k)

-- The energies at a distance on all ramps.
unfoldable pub climbed : Slopes → ℕ → ℕ
climbed r far = total r.count (climb r far)

-- All ramps stand at their places, past which nothing climbs; none climbs higher than 4032 slots of 4095 channels, and all together no
-- higher than the top.
pub record Low (r : Slopes) (top : ℕ) : Type 0 where
  pub few : r.count ≤ rows_max
  pub places : (length r.offsets ≡ rows_max) × (length r.lengths ≡ rows_max) × (length r.demands ≡ rows_max)
  pub past : (k : ℕ) → r.count ≤ k → slice_index r.demands k ≡ 0
  pub summed : top ≤ 16511040 * r.count
  pub topped : (far : ℕ) → climbed r far ≤ top
  pub low : (k : ℕ) → k < r.count → slice_index r.demands k * slice_index r.lengths k ≤ 16511040

-- The ramps have the energies of all intervals that have a side.
abbrev pub Energies : (ℕ → ℕ → Type 0) → Sheet → Slopes → Type 0
Energies has s r = (t1 t2 : ℕ) → has t1 t2 → t1 < t2 → climbed r (t2 - t1) ≡ energy s t1 t2
