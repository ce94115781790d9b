-- What is filled and the work of one entry fit, and each way out is a step of the pushes.
use Rattle.std.proofs.Common.{◌≡◌, ℕ, ◌+◌, ◌*◌, ◌<◌, ◌≤◌, max, sym, subst, mul-le-mul, arith}
use Rattle.std.specs.Int.{div_ceil}
use Rattle.model.specs.Sheets.{Sheet, Sound, count, entry, work, horizon, capacity_max}
use Rattle.model.proofs.Bounds.{work_small, work_in_small}
use Rattle.model.specs.Energy.{ceiling}
use Rattle.model.proofs.Ceilings.{rounded_up}
use Rattle.elastic.specs.Pushes.{Fullest, PushedBy}
use Rattle.elastic.proofs.Pushed.{pushed_past}
use Rattle.sheet.specs.Listed.{meant}
use Rattle.elastic_rule.proofs.queues.Queue.pushed.Goals as goal

-- what is filled is small
level_small : (s : Sheet) → Sound s → (r t2 n b : ℕ) → Fullest s r t2 n b → b ≤ 1073217600
level_small s sound r t2 n b full =
    let (i, li, (le, same)) = full.reached in
    let each = sound.each i li in
    let early : (entry s i).release ≤ horizon = omega arith in
    let room : s.capacity * (entry s i).release ≤ capacity_max * horizon = mul-le-mul sound.small_capacity early in
    omega (arith, work_in_small s sound (entry s i).release t2)

-- the level and the work of the entry
small : (s : Sheet) → Sound s → (k r t2 n b : ℕ) → k < count s → Fullest s r t2 n b → b + work (entry s k) ≤ 1089728640
small s sound k r t2 n b here full = omega (arith, level_small s sound r t2 n b full, work_small s sound k here)

pub overflow_add-total : goal.overflow_add-total
overflow_add-total c =
    let s = meant c.args.self.now.sheet in
    let sound = c.args.self.now.sheet.sound in
    let (here, (there, (full, is))) = c.requires in
    let own : c.from.result * c.from-2.result ≡ work (entry s c.args.k) = cc in
    omega (arith, small s sound c.args.k (entry s c.args.k).release (entry s c.args.j).deadline (count s) c.args.level here full)

pub returns : goal.returns
returns c =
    let s = meant c.args.self.now.sheet in
    let k = c.args.k in
    let j = c.args.j in
    let (here, (there, (full, is))) = c.requires in
    let some = c.args.self.now.sheet.sound.some_capacity in
    let own : c.from.result * c.from-2.result ≡ work (entry s k) = cc in
    let room : c.from-capacity.result * c.from-3.result ≡ s.capacity * (entry s j).deadline = cc in
    let total : c.args.level + c.from.result * c.from-2.result ≡ c.args.level + work (entry s k) = omega arith in
    let up : div_ceil (c.args.level + c.from.result * c.from-2.result) c.from-capacity.result ≡ ceiling (c.args.level + work (entry s k)) s.capacity =
    rw (total, c.from-capacity.ensures) (rounded_up (c.args.level + work (entry s k)) s.capacity some) in
    let end : c.max.result ≡ max c.args.end (ceiling (c.args.level + work (entry s k)) s.capacity) = omega (arith, up) in
    let next : ℕ → Type 0 = λ e. PushedBy s k (j + 1) e in
    subst next (sym end) (pushed_past s k j c.args.end is c.args.level full some (omega (arith, c.if-deadline-e.false)) (omega arith))
