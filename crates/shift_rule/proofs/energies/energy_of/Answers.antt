-- The least of the length, the left part and the right part, times the demand.
use Rattle.std.proofs.Common.{◌≡◌, ℕ, ◌*◌, sym, ap, ◌∙◌, arith}
use Rattle.model.specs.Energy.{held}
use Rattle.shift.proofs.Energies.{energy_is}
use Rattle.shift_rule.proofs.energies.energy_of.Goals as goal

pub returns : goal.returns
returns c =
    let e = c.args.e in
    let least : c.min-held.result ≡ held e c.args.t1 c.args.t2 = omega arith in
    rw (c.from.ensures, c.from-2.ensures) (ap (λ (n : ℕ). e.demand * n) least ∙ sym (energy_is e c.args.t1 c.args.t2))
