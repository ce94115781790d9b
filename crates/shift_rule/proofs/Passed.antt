-- An interval that is passed by because the top of the ramps leaves enough slack.
use Rattle.std.proofs.Common.{ℕ, ◌+◌, ◌-◌, ◌*◌, ◌≤◌, refl, arith}
use Rattle.model.specs.Sheets.{Sheet, Sound}
use Rattle.model.specs.Energy.{IsInterval, energy}
use Rattle.shift_rule.specs.declared.ramps.Slopes.{Slopes}
use Rattle.shift_rule.specs.declared.pass.Survey.{Survey}
use Rattle.shift_rule.specs.Ramps.{Low}
use Rattle.shift_rule.specs.Found.{Right, Accounted}
use Rattle.shift_rule.specs.Passes.{Told}
use Rattle.shift_rule.proofs.Weighed.{released, wide_accounted}

-- what is no interval is accounted for
only_intervals : (s : Sheet) (v : Survey) (t1 t2 : ℕ) → (IsInterval t1 t2 → Accounted s v t1 t2) → Accounted s v t1 t2
only_intervals s v t1 t2 h =
    record {
      negative = λ is over. (h is).negative is over;
      forced = λ is under k l before short. (h is).forced is under k l before short;
    }

pub passed_by : (s : Sheet) → Sound s → (v : Survey) → ∥ Right s v ∥₁ → (r : Slopes) (top : ℕ) → Low r top → (reach t1 t2 : ℕ) →
    Told s r reach t1 t2 → (IsInterval t1 t2 → top + reach ≤ s.capacity * (t2 - t1)) → Accounted s v t1 t2
passed_by s sound v right r top low reach t1 t2 told far =
    only_intervals s v t1 t2 (λ is.
    let wide = far is in
    let topped = low.topped (t2 - t1) in
    let same = told.energies is.ordered in
    let slack = s.capacity * (t2 - t1) - energy s t1 t2 in
    let under : energy s t1 t2 ≤ s.capacity * (t2 - t1) = omega arith in
    let more : reach ≤ slack = omega arith in
    wide_accounted s v t1 t2 (told.candidate is) slack under refl sound (released s v right) reach told.enough more)
