-- One ramp more.
use Rattle.std.proofs.Common.{◌≡◌, ℕ, ◌-◌, ◌*◌, ◌≤◌, min, get_or, sym, ap, ◌∙◌, inl, inr, mul-le-mul_left, arith}
use Rattle.std.proofs.lemmas.Bool.{cases_lt}
use Rattle.model.proofs.Sums.{total_none, total_more}
use Rattle.shift_rule.specs.declared.ramps.Slopes.{Slopes}
use Rattle.shift_rule.specs.Ramps.{climb, Low}
use Rattle.shift_rule.proofs.Climbing.{climb_past, climbed_by}
use Rattle.shift_rule.proofs.ramps.Ramps.climbed.Goals as goal

climb_most : (r : Slopes) (top : ℕ) → Low r top → (far k : ℕ) → climb r far k ≤ 16511040
climb_most r top low far k =
    elim (cases_lt k r.count) [
      | inl here ↦
          let less : min (far - get_or r.offsets k 0) (get_or r.lengths k 0) ≤ get_or r.lengths k 0 = omega arith in
          omega (arith, mul-le-mul_left (get_or r.demands k 0) less, low.low k here)
      | inr past ↦ omega (arith, climb_past r top low far k past)
    ]

pub loop-k-init : goal.loop-k-init
loop-k-init c = (sym (total_none (climb c.args.self.now.slopes c.args.far)), omega arith)

pub loop-k-preserved : goal.loop-k-preserved
loop-k-preserved c =
    let r = c.args.self.now.slopes in
    let k = c.loop-k.k in
    let here : c.from.result * c.from-in-loop-k.result ≡ climb r c.args.far k =
    rw (c.from.ensures, c.from-in-loop-k.ensures) (ap (λ (n : ℕ). get_or r.demands k 0 * n) (omega arith)) in
    let most = climb_most r _ c.args.self.now.low c.args.far k in
    let more = total_more (climb r c.args.far) k in
    (omega arith, omega arith)

pub returns : goal.returns
returns c =
    let r = c.args.self.now.slopes in
    c.loop-k.invariant.0 ∙ sym (climbed_by r _ c.args.self.now.low c.args.far c.loop-k.k (omega arith))
