use Rattle.elastic.proofs.Law.{e_is_exact}
use Rattle.elastic.proofs.e_is_exact.Goals as goal

pub returns : goal.returns
returns c = e_is_exact
