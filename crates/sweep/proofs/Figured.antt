-- The window between what a rule answers on a sheet and on its mirror is the window of the two figures.
use Rattle.std.proofs.Common.{◌≡◌, ℕ, ◌-◌, ◌<◌, ◌≤◌, List, max, slice_index, Some, sym, ap, subst, arith}
use Rattle.model.specs.declared.entries.Entry.{Entry}
use Rattle.model.specs.Rules.{Meaning, Proper}
use Rattle.model.specs.Sheets.{Sheet, Sound, count, entry, mirror, horizon}
use Rattle.model.proofs.Mirrors.{mirror_at, mirror_count}
use Rattle.runs.specs.Applying.{figures, number}
use Rattle.sweep.specs.Windows.{window_between}

-- what is answered on the mirror of a sheet, by the places of the sheet
pub back : (rule : Meaning) (s t : Sheet) (ends : List ℕ) → t ≡ s → ((k : ℕ) → k < count (mirror t) → rule.earliest (mirror t) k ≡ Some (slice_index ends k)) →
    (k : ℕ) → k < count s → rule.earliest (mirror s) k ≡ Some (slice_index ends k)
back rule s t ends same each k l =
    subst (λ (x : Sheet). rule.earliest (mirror x) k ≡ Some (slice_index ends k)) same
    (each k (omega (arith, mirror_count t, ap count same)))

pub start_small : (rule : Meaning) → Proper rule → (s : Sheet) → Sound s → (k n : ℕ) → k < count s → rule.earliest s k ≡ Some n → n ≤ horizon
start_small rule proper s sound k n l e =
    let (m, f, h) = proper.present s sound k l in
    let same : n ≡ m = cc in
    omega arith

pub figured : (rule : Meaning) (s : Sheet) (k a b : ℕ) → k < count s → rule.earliest s k ≡ Some a → rule.earliest (mirror s) k ≡ Some b →
    window_between (entry s k) a b ≡ figures rule s k
figured rule s k a b l e f =
    let m : (entry (mirror s) k).release ≡ horizon - (entry s k).deadline = ap (λ (x : Entry). x.release) (mirror_at s k l) in
    let e1 : number (rule.earliest s k) ≡ a = ap number e in
    let e2 : number (rule.earliest (mirror s) k) ≡ b = ap number f in
    let r : max (entry s k).release a ≡ max (entry s k).release (number (rule.earliest s k)) = ap (max (entry s k).release) (sym e1) in
    let d : horizon - max (horizon - (entry s k).deadline) b ≡ horizon - max (entry (mirror s) k).release (number (rule.earliest (mirror s) k)) =
    omega arith in
    λ z. record { release = r z; deadline = d z }
