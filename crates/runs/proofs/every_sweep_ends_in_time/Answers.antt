use Rattle.runs.proofs.OneRun.{every_sweep_ends_in_time}
use Rattle.runs.proofs.every_sweep_ends_in_time.Goals as goal

pub returns : goal.returns
returns c = every_sweep_ends_in_time
