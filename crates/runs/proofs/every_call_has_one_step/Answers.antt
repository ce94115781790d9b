use Rattle.runs.proofs.OneRun.{every_call_has_one_step}
use Rattle.runs.proofs.every_call_has_one_step.Goals as goal

pub returns : goal.returns
returns c = every_call_has_one_step
