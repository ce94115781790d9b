-- One place more is raised, or needs not be.
use Rattle.std.proofs.Common.{◌≡◌, ℕ, ◌+◌, ◌<◌, ◌≤◌, max, List, length, get_or, sym, refl, subst, inl, inr, arith}
use Rattle.std.proofs.lemmas.Bool.{cases_lt}
use Rattle.std.specs.Coded.{le_prop}
use mathlib.Core.Logic.{∥∥₁_elim}
use Rattle.model.specs.Sheets.{count, entry}
use Rattle.shift_rule.specs.Forced.{start_after}
use Rattle.shift_rule.specs.Leeways.{leeway, IsListed}
use Rattle.sheet.specs.Listed.{meant}
use Rattle.shift_rule.proofs.Leeway.{stays_released, fixed_leeway, late_leeway}
use Rattle.shift_rule.proofs.Raised.{Between, RaisedAt, between_more, raised_more, raised_still}
use Rattle.shift_rule.proofs.visits.raise.Goals as goal
use Rattle.shift_rule.proofs.visits.raise.Goals.{then-e-t2, else-e-t2}

pub loop-place-preserved : goal.loop-place-preserved
loop-place-preserved c =
    let s = meant c.args.movers.now.sheet in
    let t1 = c.args.t1 in
    let t2 = c.args.t2 in
    let slack = c.args.slack in
    let forced = λ (j : ℕ). start_after (entry s j) t1 t2 slack in
    let places = c.as_slice-place-items.result.now in
    let before = c.args.starts.now in
    let q = c.loop-place.place-index in
    let k = get_or places q 0 in
    let xs = c.loop-place.starts in
    let same = c.as_slice-place-items.ensures.value in
    let here : k < count s = rw same (c.args.movers.now.listed.inside q (rw same at c.loop-place-test.true)) in
    let inside : k < length xs = omega (arith, c.loop-place.auto.starts, c.requires.places) in
    elim c.if-e-t2.branch [
      | then-e-t2 w ↦
          let is : w.max.result ≡ max (get_or xs k 0) (forced k) = omega (arith, w.max.ensures, w.forced_start.ensures) in
          subst (λ (ys : List ℕ). Between (count s) forced before ys × RaisedAt forced places (q + 1) ys) (sym w.starts-is) (
            between_more forced xs k w.max.result inside is (count s) before c.loop-place.invariant.0,
            raised_more forced xs k w.max.result inside is places q refl c.loop-place.invariant.1,
          )
      | else-e-t2 w ↦
          let fine = c.args.movers.now.sheet.sound.each k here in
          let none : leeway (entry s k) t2 ≤ slack = omega (arith, late_leeway (entry s k) fine.room t2 w.if-e-t2.false) in
          let stays = stays_released (entry s k) fine.room t1 t2 slack fine.asks none in
          let (low, high) = c.loop-place.invariant.0 k here in
          let high-enough : forced k ≤ get_or xs k 0 = omega (arith, c.requires.released k here) in
          subst (λ (ys : List ℕ). Between (count s) forced before ys × RaisedAt forced places (q + 1) ys) (sym w.starts-is)
          (c.loop-place.invariant.0, raised_still forced places q xs c.loop-place.invariant.1 high-enough)
    ]

pub returns : goal.returns
returns c k l =
    let s = meant c.args.movers.now.sheet in
    let t1 = c.args.t1 in
    let t2 = c.args.t2 in
    let slack = c.args.slack in
    let forced = λ (j : ℕ). start_after (entry s j) t1 t2 slack in
    let e = entry s k in
    let fine = c.args.movers.now.sheet.sound.each k l in
    let starts = c.loop-place.starts in
    let (low, high) = c.loop-place.invariant.0 k l in
    elim (cases_lt (e.release + e.duration) e.deadline) [
      | inl spare ↦
          let raised : forced k ≤ get_or starts k 0 =
          ∥∥₁_elim (subst (λ (ps : List ℕ). IsListed ps k) (sym c.as_slice-place-items.ensures.value) (c.args.movers.now.listed.each k l spare)) (hlevel le_prop)
          (λ (q, listed, is). subst (λ (j : ℕ). forced j ≤ get_or starts j 0) is (c.loop-place.invariant.1 q (omega arith))) in
          omega arith
      | inr fixed ↦
          let none : leeway e t2 ≤ slack = omega (arith, fixed_leeway e fine.room t2 fixed) in
          let stays = stays_released e fine.room t1 t2 slack fine.asks none in
          omega (arith, c.requires.released k l)
    ]
