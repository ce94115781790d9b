-- Cut-off subtraction beside the integers, and the quotient rounded up.
use Rattle.std.proofs.Common.{mul-le-mul_left, arith}
use Rattle.std.proofs.lemmas.Int.{ints, clamps}
use Rattle.model.proofs.Ceilings.{ceiling_up, ceiling_least}
use Rattle.shift.specs.Theorems.{PartsAreClipped, QuotientsRoundUp}

pub parts_are_clipped : PartsAreClipped
parts_are_clipped =
    record {
      left = λ e t1. omega (arith, ints, clamps);
      right = λ e t2. omega (arith, ints, clamps);
      slack = λ s t1 t2. (λ h. omega (arith, ints), λ h. omega (arith, ints));
    }

pub quotients_round_up : QuotientsRoundUp
quotients_round_up x c slots h = (
  λ enough. omega (arith, ceiling_up x c h, mul-le-mul_left c enough),
  λ enough. ceiling_least x c slots h enough,
)
