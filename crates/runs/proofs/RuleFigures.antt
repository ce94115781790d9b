-- The figures of a lawful rule: inside the window, and kept by every placement.
use Rattle.std.proofs.Common.{◌≡◌, ℕ, ◌+◌, ◌-◌, ◌<◌, ◌≤◌, ◌⊎◌, Some, None, Option, refl, ap, inl, inr, arith}
use Rattle.model.specs.declared.entries.Entry.{Entry}
use Rattle.model.specs.declared.intervals.Interval.{Interval}
use Rattle.model.specs.Rules.{Meaning, Lawful}
use Rattle.model.specs.Sheets.{Sheet, Sound, Placement, count, entry, horizon, mirror}
use Rattle.model.proofs.Mirrors.{mirror_count, mirror_at, mirror_sound, mirror_placement}
use Rattle.runs.specs.Applying.{figure, figures}

pub some_or_none : (o : Option Interval) → ((i : Interval) × (o ≡ Some i)) ⊎ (o ≡ None)
some_or_none (Some i) = inl (i, refl)
some_or_none None = inr refl

-- a figure is a slot, or the end of the last one
pub figure_small : (rule : Meaning) → Lawful rule → (s : Sheet) → Sound s → (k : ℕ) → k < count s → figure rule s k ≤ horizon
figure_small rule law s sound k l =
    let (n, e, h) = law.proper.present s sound k l in
    let good = sound.each k l in
    rw e (omega arith)

-- no placement starts an entry before its figure
pub figure_low : (rule : Meaning) → Lawful rule → (s : Sheet) → Sound s → (start : ℕ → ℕ) → Placement s start →
    (k : ℕ) → k < count s → figure rule s k ≤ start k
figure_low rule law s sound start p k l =
    elim (some_or_none (rule.evidence s)) [
      | inl found ↦ absurd (law.refutes s sound found.0 found.1 start p)
      | inr none ↦
          let (n, e, h) = law.proper.present s sound k l in
          let low = law.never_before s sound none start p k n l e in
          rw e (omega (arith, p.released k l))
    ]

-- a placement keeps to the two figures of each entry
pub figures_hold : (rule : Meaning) → Lawful rule → (s : Sheet) → Sound s → (start : ℕ → ℕ) → Placement s start → (k : ℕ) → k < count s →
    ((figures rule s k).release ≤ start k) × (start k + (entry s k).duration ≤ (figures rule s k).deadline)
figures_hold rule law s sound start p k l =
    let back = figure_low rule law (mirror s) (mirror_sound s sound) (λ j. horizon - (start j + (entry s j).duration))
    (mirror_placement s sound start p) k (rw (mirror_count s) l) in
    (figure_low rule law s sound start p k l, omega (arith, p.in_time k l, sound.each k l))

-- the figures lie inside the window
pub figures_inside : (rule : Meaning) (s : Sheet) → Sound s → (k : ℕ) → k < count s →
    ((entry s k).release ≤ (figures rule s k).release) × ((figures rule s k).deadline ≤ (entry s k).deadline)
figures_inside rule s sound k l =
    let m = ap (λ (e : Entry). e.release) (mirror_at s k l) in
    (omega arith, omega (arith, sound.each k l))
