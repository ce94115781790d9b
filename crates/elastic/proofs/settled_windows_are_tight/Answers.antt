use Rattle.elastic.proofs.Law.{settled_windows_are_tight}
use Rattle.elastic.proofs.settled_windows_are_tight.Goals as goal

pub returns : goal.returns
returns c = settled_windows_are_tight
