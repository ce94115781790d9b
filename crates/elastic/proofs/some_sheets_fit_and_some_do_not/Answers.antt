use Rattle.elastic.proofs.Examples.{some_fit_and_some_do_not}
use Rattle.elastic.proofs.some_sheets_fit_and_some_do_not.Goals as goal

pub returns : goal.returns
returns c = some_fit_and_some_do_not
