-- Each entry has its level.
use Rattle.std.proofs.Common.{◌≡◌, ℕ, ◌+◌, ◌-◌, ◌*◌, ◌<◌, ◌≤◌, ◌⊎◌, replicate, refl, ap, inl, inr, mul-le-mul, arith}
use Rattle.model.specs.Sheets.{entry, horizon, capacity_max, rows_max}
use Rattle.model.proofs.Bounds.{work_in_small}
use Rattle.sheet.specs.Listed.{meant}
use Rattle.elastic_rule.proofs.Positions.{levelled_none, now_inside, rest_enough, levelled_more}
use Rattle.elastic_rule.proofs.queues.Queue.levels.Goals as goal
use Rattle.elastic_rule.proofs.queues.Queue.levels.Goals.{then-e-release, else-e-release}

pub loop-place-init : goal.loop-place-init
loop-place-init c =
    levelled_none (meant c.args.self.now.sheet) c.args.t2 c.args.self.now.rising
    (replicate rows_max 0) c.all_work_by-rest.result refl c.all_work_by-rest.ensures

pub overflow_add-levels : goal.overflow_add-levels
overflow_add-levels c =
    let s = meant c.args.self.now.sheet in
    let p = c.loop-place.place in
    let way : ((c.loop-place.release < (entry s p).release) × (c.if-e-release.inside ≡ c.loop-place.rest)) ⊎ (((entry s p).release ≤ c.loop-place.release) × (c.if-e-release.inside ≡ c.loop-place.inside)) =
    elim c.if-e-release.branch [ then-e-release w ↦ inl (omega (arith, w.if-e-release.true), w.inside-is) | else-e-release w ↦ inr (omega (arith, w.if-e-release.false), w.inside-is) ] in
    let now =
    now_inside s c.args.t2 c.args.self.now.rising c.loop-place.levels p
    c.loop-place.release c.loop-place.inside c.loop-place.rest c.loop-place-test.true c.loop-place.invariant c.if-e-release.inside way in
    let own : c.from-capacity.result * c.from.result ≡ s.capacity * (entry s p).release = cc in
    let each = c.args.self.now.sheet.sound.each p c.loop-place-test.true in
    let early : (entry s p).release ≤ horizon = omega arith in
    let room : c.args.self.now.sheet.capacity * (entry s p).release ≤ capacity_max * horizon = mul-le-mul c.args.self.now.sheet.sound.small_capacity early in
    omega (arith, work_in_small s c.args.self.now.sheet.sound (entry s p).release c.args.t2)

pub overflow_sub-rest : goal.overflow_sub-rest
overflow_sub-rest c =
    let s = meant c.args.self.now.sheet in
    let enough =
    rest_enough s c.args.t2 c.args.self.now.rising c.loop-place.levels c.loop-place.place
    c.loop-place.release c.loop-place.inside c.loop-place.rest c.loop-place-test.true c.loop-place.invariant in
    omega arith

pub loop-place-preserved : goal.loop-place-preserved
loop-place-preserved c =
    let s = meant c.args.self.now.sheet in
    let p = c.loop-place.place in
    let way : ((c.loop-place.release < (entry s p).release) × (c.if-e-release.inside ≡ c.loop-place.rest)) ⊎ (((entry s p).release ≤ c.loop-place.release) × (c.if-e-release.inside ≡ c.loop-place.inside)) =
    elim c.if-e-release.branch [ then-e-release w ↦ inl (omega (arith, w.if-e-release.true), w.inside-is) | else-e-release w ↦ inr (omega (arith, w.if-e-release.false), w.inside-is) ] in
    let now =
    now_inside s c.args.t2 c.args.self.now.rising c.loop-place.levels p
    c.loop-place.release c.loop-place.inside c.loop-place.rest c.loop-place-test.true c.loop-place.invariant c.if-e-release.inside way in
    let own : c.from-capacity.result * c.from.result ≡ s.capacity * (entry s p).release = cc in
    levelled_more s c.args.t2 c.args.self.now.rising c.loop-place.levels p
    c.loop-place.release c.loop-place.inside c.loop-place.rest c.loop-place-test.true c.loop-place.invariant
    (c.from-capacity.result * c.from.result + c.if-e-release.inside) c.if-e-release.inside (c.loop-place.rest - c.work_by-rest.result)
    c.args.self.now.sheet.sound.few now (ap (λ (n : ℕ). n + c.if-e-release.inside) own) (ap (λ (w : ℕ). c.loop-place.rest - w) c.work_by-rest.ensures)
