-- The energy of an early start less the energy that is held anyway is the demand in the slots between.
use Rattle.std.proofs.Common.{refl, ◌≡◌, ℕ, ◌+◌, ◌-◌, ◌*◌, min, ap, arith}
use Rattle.model.specs.declared.entries.Entry.{Entry}
use Rattle.model.specs.Energy.{left_part, held, energy_of}
use Rattle.shift.proofs.Slots.{held_early}
use Rattle.shift.proofs.Energies.{energy_is}
use Rattle.shift_rule.proofs.energies.lack_beside.Goals as goal

split : (e : Entry) (t1 t2 early : ℕ) → early ≡ min (t2 - t1) (left_part e t1) →
    e.demand * early ≡ energy_of e t1 t2 + e.demand * (min (t2 - t1) (left_part e t1) - held e t1 t2)
split e t1 t2 early is =
    let h = held_early e t1 t2 in
    let parts : early ≡ held e t1 t2 + (min (t2 - t1) (left_part e t1) - held e t1 t2) = omega arith in
    omega (arith, energy_is e t1 t2, ap (λ (n : ℕ). e.demand * n) parts)

pub overflow_sub-from : goal.overflow_sub-from
overflow_sub-from c =
    let early : c.min-early.result ≡ min (c.args.t2 - c.args.t1) (left_part c.args.e c.args.t1) = omega arith in
    let parts = split c.args.e c.args.t1 c.args.t2 c.min-early.result early in
    let most : c.from.result * c.from-2.result ≡ c.args.e.demand * c.min-early.result = rw (c.from.ensures, c.from-2.ensures) refl in
    omega (arith, c.energy_of.ensures)

pub returns : goal.returns
returns c =
    let early : c.min-early.result ≡ min (c.args.t2 - c.args.t1) (left_part c.args.e c.args.t1) = omega arith in
    let parts = split c.args.e c.args.t1 c.args.t2 c.min-early.result early in
    let most : c.from.result * c.from-2.result ≡ c.args.e.demand * c.min-early.result = rw (c.from.ensures, c.from-2.ensures) refl in
    omega (arith, c.energy_of.ensures, c.saturating_sub-2.ensures)
