use Rattle.elastic.proofs.Placed.{placements_are_elastic}
use Rattle.elastic.proofs.placements_are_elastic.Goals as goal

pub returns : goal.returns
returns c = placements_are_elastic
