-- What the report means of every file, and of every board.
use Rattle.planning.specs.Promise.{EveryLoadEntersTheTestsOfItsFile, EveryPlanKeepsItsPromise, EveryFileHasOnePlan}
use Rattle.planning.proofs.TestsEntered.{every_load_enters_the_tests}
use Rattle.planning.proofs.PromiseKept.{every_plan_keeps_its_promise}
use Rattle.planning.proofs.OnePlan.{every_file_has_one_plan}
use Rattle.planning.proofs.plans.plan.Goals as goal

promise : EveryLoadEntersTheTestsOfItsFile × ((EveryPlanKeepsItsPromise) × (EveryFileHasOnePlan))
promise = (every_load_enters_the_tests, (every_plan_keeps_its_promise, every_file_has_one_plan))

pub returns-then-is_err-clause-promise : goal.returns-then-is_err-clause-promise
returns-then-is_err-clause-promise c = promise

pub returns-else-is_err-clause-promise : goal.returns-else-is_err-clause-promise
returns-else-is_err-clause-promise c = promise
