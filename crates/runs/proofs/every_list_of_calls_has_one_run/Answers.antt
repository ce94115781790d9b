use Rattle.runs.proofs.OneRun.{every_list_of_calls_has_one_run}
use Rattle.runs.proofs.every_list_of_calls_has_one_run.Goals as goal

pub returns : goal.returns
returns c = every_list_of_calls_has_one_run
