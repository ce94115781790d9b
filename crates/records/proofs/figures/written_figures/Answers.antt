use Rattle.std.proofs.Common.{refl}
use Rattle.records.specs.Numbers.{value_of, announcing}
use Rattle.records.proofs.figures.written_figures.Goals as goal

pub returns : goal.returns
unfolding value_of announcing
returns c = (refl, refl, refl)
