use Rattle.elastic.proofs.Mirrored.{mirrors_keep}
use Rattle.elastic.proofs.mirrors_keep_placements_and_schedules.Goals as goal

pub returns : goal.returns
returns c = mirrors_keep
